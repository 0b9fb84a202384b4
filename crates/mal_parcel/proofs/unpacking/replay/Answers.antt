use Rattle.std.proofs.Common.{arith}
use Rattle.mal_parcel.proofs.UnpackLemmas.{got, before-at, behind-at}
use Rattle.mal_parcel.proofs.unpacking.replay.Goals as goal

pub again-requires : goal.again-requires
again-requires c = before-at c.args.job.now.number c.args.job.now.titled.key c.args.own.now c.loop-at.at c.index-own-at.result (got c.args.own.now c.loop-at.at c.index-own-at.result c.loop-at-test.true c.index-own-at.is) c.loop-at.invariant.0 c.requires.lawful c.loop-at.job c.loop-at.slices.now c.loop-at.answers.now c.loop-at.invariant.1

pub loop-at-preserved : goal.loop-at-preserved
loop-at-preserved c = (omega (arith, c.loop-at.invariant.0), behind-at c.args.job.now.number c.args.job.now.titled.key c.args.own.now c.loop-at.at c.index-own-at.result (got c.args.own.now c.loop-at.at c.index-own-at.result c.loop-at-test.true c.index-own-at.is) c.loop-at.invariant.0 c.requires.lawful c.loop-at.job c.loop-at.slices.now c.loop-at.answers.now c.loop-at.invariant.1 c.again.new.job c.in_ok-left.left.0.now c.in_ok-left.left.1.now c.in_ok-left.ensures)
