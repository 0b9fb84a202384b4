use Rattle.std.proofs.Common.{◌+◌, ◌-◌, ◌≤◌, ◌∙◌, length, take, reverse, sym, ap, subst, arith}
use Rattle.mal_learn.specs.Tracing.{traced_all}
use Rattle.mal_learn.proofs.WalkLemmas.{AddsOne}
use Rattle.mal_learn.proofs.TraceLemmas.{trace-step, traced-adds}
use Rattle.mal_learn.proofs.work.Work.trace_all.Goals as goal

pub loop-made-preserved : goal.loop-made-preserved
loop-made-preserved g c =
    let es = g.T.TrailView.entries c.args.trail.now in
    let cs = g.C.ClauseView.clauses c.args.clauses.now in
    let inv = c.loop-made.invariant in
    let adds : AddsOne c.loop-made.self.state c.trace.new.self.state = subst (AddsOne c.loop-made.self.state) (sym c.trace.ensures.state) (traced-adds cs c.at-entry.result c.loop-made.self.state) in
    let lits : length c.trace.new.self.state.lits ≤ length c.loop-made.self.state.lits + 1 = adds.lits in
    let hints : length c.trace.new.self.state.hints ≤ length c.loop-made.self.state.hints + 1 = adds.hints in
    record {
      state = ap (traced_all cs (reverse (take (c.args.count - (c.loop-made.made + 1)) es))) c.trace.ensures.state ∙ (sym (trace-step cs c.loop-made.made c.args.count es c.at-entry.result c.loop-made.self.state c.requires.count c.loop-made-test.true c.at-entry.ensures) ∙ inv.state);
      room = c.trace.ensures.room ∙ inv.room;
      lits = omega (arith, lits, inv.lits);
      hints = omega (arith, hints, inv.hints);
    }
