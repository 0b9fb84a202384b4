use Rattle.std.proofs.Common.{◌+◌, ◌-◌, ◌≤◌, ◌∙◌, length, take, reverse, set, false, sym, ap, subst, arith}
use Rattle.std.proofs.lemmas.List.{length-set}
use Rattle.mal_base.specs.Literals.{var_of}
use Rattle.mal_learn.specs.Working.{State}
use Rattle.mal_learn.specs.Shortening.{Shortening, shorter_state, shorter_visited_all}
use Rattle.mal_learn.proofs.WalkLemmas.{AddsOne}
use Rattle.mal_learn.proofs.ShortenLemmas.{shorter-step, shorter-adds}
use Rattle.mal_learn.proofs.work.Work.walk_shorter.Goals as goal

pub loop-made-preserved : goal.loop-made-preserved
loop-made-preserved g c =
    let es = g.T.TrailView.entries c.args.trail.now in
    let cs = g.C.ClauseView.clauses c.args.clauses.now in
    let inv = c.loop-made.invariant in
    let x : Shortening = record { state = c.loop-made.self.state; base = c.loop-made.base } in
    let adds : AddsOne c.loop-made.self.state c.visit_shorter.new.self.state = subst (AddsOne c.loop-made.self.state) (sym c.visit_shorter.ensures.state) (shorter-adds cs c.args.level c.at-entry.result x) in
    let lits : length c.visit_shorter.new.self.state.lits ≤ length c.loop-made.self.state.lits + 1 = adds.lits in
    let hints : length c.visit_shorter.new.self.state.hints ≤ length c.loop-made.self.state.hints + 1 = adds.hints in
    record {
      walk = ap (λ (s : State). shorter_visited_all cs c.args.level (reverse (take (length es - (c.loop-made.made + 1)) es)) (record { state = s; base = c.visit_shorter.new.base })) c.visit_shorter.ensures.state ∙ (ap (λ (b : _). shorter_visited_all cs c.args.level (reverse (take (length es - (c.loop-made.made + 1)) es)) (record { state = shorter_state cs c.args.level c.at-entry.result (set c.loop-made.base (var_of c.at-entry.result.lit) false) c.loop-made.self.state; base = b })) c.visit_shorter.ensures.base ∙ (sym (shorter-step cs c.args.level c.loop-made.made c.len-count.result es c.at-entry.result x c.len-count.ensures c.loop-made-test.true c.at-entry.ensures) ∙ inv.walk));
      len = ap length c.visit_shorter.ensures.base ∙ (length-set c.loop-made.base (var_of c.at-entry.result.lit) false ∙ inv.len);
      room = c.visit_shorter.ensures.room ∙ inv.room;
      lits = omega (arith, lits, inv.lits);
      hints = omega (arith, hints, inv.hints);
    }
