use Rattle.std.proofs.Common.{◌||◌, ◌==◌, take, arith}
use Rattle.std.specs.List.{list_any}
use Rattle.mal_proof.proofs.Marking.{marks-none, marks-more}
use Rattle.mal_proof.proofs.ids.mark_all.Goals as goal

pub loop-id-init : goal.loop-id-init
loop-id-init c = λ test e. marks-none test c.args.ids.now c.args.marks.now e

pub loop-id-preserved : goal.loop-id-preserved
loop-id-preserved c = λ test e. marks-more test c.args.ids.now c.args.more.now _ c.loop-id.id-index _ (omega arith) c.id-item.is (c.mark.ensures (λ i. test i || list_any (λ id. id == i) (take c.loop-id.id-index c.args.more.now)) (c.loop-id.invariant test e))
