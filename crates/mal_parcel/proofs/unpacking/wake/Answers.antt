use Rattle.std.proofs.Common.{◌-◌, ◌+◌, ◌∙◌, sym, subst, arith}
use Rattle.spec_job.specs.Viewed.{JobView}
use Rattle.mal_parcel.specs.Replaying.{IsToWake}
use Rattle.mal_parcel.proofs.UnpackLemmas.{first-next, others-left}
use Rattle.mal_parcel.proofs.unpacking.wake.Goals as goal

pub wake_next-requires : goal.wake_next-requires
wake_next-requires c = first-next c.loop.job.titled.state (c.args.count - c.loop.counter) c.loop.rest.now (omega arith) c.loop.invariant.left

pub loop-preserved : goal.loop-preserved
loop-preserved c =
    let next = others-left c.loop.job.titled.state (c.args.count - c.loop.counter) (c.args.count - (c.loop.counter + 1)) c.loop.rest.now c.in_ok-rest.rest.now (omega arith) c.loop.invariant.short c.in_ok-rest.ensures.rest c.loop.invariant.left in
    record {
      same = c.wake_next.ensures.same ∙ c.loop.invariant.same;
      left = subst (λ (v : JobView). IsToWake v.titled.state (c.args.count - (c.loop.counter + 1)) c.in_ok-rest.rest.now) (sym c.wake_next.ensures.same) next.0;
      short = next.1;
    }
