use Rattle.std.proofs.Common.{arith}
use Rattle.mal_check.specs.Checked.{held}
use Rattle.mal_check.proofs.TrueLemmas.{step-passed, step-made}
use Rattle.mal_check.proofs.checker.propagate.Goals as goal
use Rattle.mal_check.proofs.checker.propagate.Goals.{in-Passes, in-Makes+in_ok-add-in-Makes}

pub loop-id-preserved : goal.loop-id-preserved
loop-id-preserved c =
    elim c.match-effect_of.branch [
      | in-Passes w ↦ rw w.trues-is (step-passed (held c.args.clauses.now) c.loop-id.trues c.args.hints.now c.loop-id.id-index c.id-item.result c.in-Some.clause.now _ (omega arith) c.id-item.is c.in-Some.ensures w.in-Passes.ensures c.loop-id.invariant)
      | in-Makes+in_ok-add-in-Makes w ↦ rw w.trues-is (step-made (held c.args.clauses.now) c.loop-id.trues w.add.new.self c.args.hints.now c.loop-id.id-index c.id-item.result w.in-Makes.lit c.in-Some.clause.now _ (omega arith) c.id-item.is c.in-Some.ensures w.in-Makes.ensures w.in_ok-add-in-Makes.ensures.ok c.loop-id.invariant)
    ]
