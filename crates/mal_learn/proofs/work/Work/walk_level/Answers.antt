use Rattle.std.proofs.Common.{◌+◌, ◌-◌, ◌<◌, ◌≤◌, ◌∙◌, length, take, reverse, sym, ap, subst, arith}
use Rattle.std.specs.Prelude.{◌==◌, take_while}
use Rattle.mal_base.specs.Literals.{var_of}
use Rattle.mal_learn.specs.Working.{visited_all}
use Rattle.mal_learn.proofs.WalkLemmas.{visited-adds, AddsOne}
use Rattle.mal_learn.proofs.WayLemmas.{entry-within, level-step, level-end}
use Rattle.mal_learn.proofs.work.Work.walk_level.Goals as goal

pub returns-then-entry-level-clause-state : goal.returns-then-entry-level-clause-state
returns-then-entry-level-clause-state g c = sym (level-end (g.C.ClauseView.clauses c.args.clauses.now) c.args.level c.loop-made.made c.len-count.result (g.T.TrailView.entries c.args.trail.now) c.at-entry.result c.loop-made.self.state c.len-count.ensures c.loop-made-test.true c.at-entry.ensures c.if-entry-level.true) ∙ c.loop-made.invariant.state

pub visit-requires-clause-var : goal.visit-requires-clause-var
visit-requires-clause-var g c =
    let within : var_of c.at-entry.result.lit < c.args.self.now.room = entry-within _ _ (g.T.TrailView.entries c.args.trail.now) c.at-entry.result c.requires.room.within c.at-entry.ensures in
    omega (arith, within, c.loop-made.invariant.room)

pub loop-made-preserved : goal.loop-made-preserved
loop-made-preserved g c =
    let es = g.T.TrailView.entries c.args.trail.now in
    let cs = g.C.ClauseView.clauses c.args.clauses.now in
    let inv = c.loop-made.invariant in
    let adds : AddsOne c.loop-made.self.state c.visit.new.self.state = subst (AddsOne c.loop-made.self.state) (sym c.visit.ensures.state) (visited-adds cs c.args.level c.at-entry.result c.loop-made.self.state) in
    let lits : length c.visit.new.self.state.lits ≤ length c.loop-made.self.state.lits + 1 = adds.lits in
    let hints : length c.visit.new.self.state.hints ≤ length c.loop-made.self.state.hints + 1 = adds.hints in
    record {
      state = ap (visited_all cs c.args.level (take_while (λ e. e.level == c.args.level) (reverse (take (length es - (c.loop-made.made + 1)) es)))) c.visit.ensures.state ∙ (sym (level-step cs c.args.level c.loop-made.made c.len-count.result es c.at-entry.result c.loop-made.self.state c.len-count.ensures c.loop-made-test.true c.at-entry.ensures c.if-entry-level.false) ∙ inv.state);
      room = c.visit.ensures.room ∙ inv.room;
      lits = omega (arith, lits, inv.lits);
      hints = omega (arith, hints, inv.hints);
    }
