use Rattle.std.proofs.Common.{◌+◌, ◌-◌, ◌≤◌, ◌∙◌, length, take, reverse, sym, ap, subst, arith}
use Rattle.mal_learn.specs.Working.{visited_all}
use Rattle.mal_learn.proofs.WalkLemmas.{walk-step, visited-adds, AddsOne}
use Rattle.mal_learn.proofs.work.Work.walk.Goals as goal

pub loop-made-preserved : goal.loop-made-preserved
loop-made-preserved g c =
    let es = g.T.TrailView.entries c.args.trail.now in
    let cs = g.C.ClauseView.clauses c.args.clauses.now in
    let inv = c.loop-made.invariant in
    let adds : AddsOne c.loop-made.self.state c.visit.new.self.state = subst (AddsOne c.loop-made.self.state) (sym c.visit.ensures.state) (visited-adds cs c.args.level c.at-entry.result c.loop-made.self.state) in
    let lits : length c.visit.new.self.state.lits ≤ length c.loop-made.self.state.lits + 1 = adds.lits in
    let hints : length c.visit.new.self.state.hints ≤ length c.loop-made.self.state.hints + 1 = adds.hints in
    record {
      state = ap (visited_all cs c.args.level (reverse (take (length es - (c.loop-made.made + 1)) es))) c.visit.ensures.state ∙ (sym (walk-step cs c.args.level c.loop-made.made c.len-count.result es c.at-entry.result c.loop-made.self.state c.len-count.ensures c.loop-made-test.true c.at-entry.ensures) ∙ inv.state);
      room = c.visit.ensures.room ∙ inv.room;
      lits = omega (arith, lits, inv.lits);
      hints = omega (arith, hints, inv.hints);
    }
