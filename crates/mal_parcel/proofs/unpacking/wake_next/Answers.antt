use Rattle.std.proofs.Common.{arith, ◌∙◌}
use Rattle.std.proofs.lemmas.Option.{none-some}
use Rattle.mal_parcel.proofs.UnpackLemmas.{next-found, next-is, next-frozen}
use Rattle.mal_parcel.proofs.unpacking.wake_next.Goals as goal

pub unreachable-requires : goal.unreachable-requires
unreachable-requires c = absurd (none-some _ (c.in_default.ensures ∙ next-found c.args.job.now.titled.state c.args.nodes.now (omega arith) c.requires))

pub overflow_cast-index : goal.overflow_cast-index
overflow_cast-index c =
    let is = next-is c.args.job.now.titled.state c.args.nodes.now (omega arith) c.requires c.in-Some.index c.in-Some.image.now c.in-Some.rest.now c.in-Some.ensures in
    omega (arith, is.0, c.requires.low)

pub wake-requires : goal.wake-requires
wake-requires c =
    let is = next-is c.args.job.now.titled.state c.args.nodes.now (omega arith) c.requires c.in-Some.index c.in-Some.image.now c.in-Some.rest.now c.in-Some.ensures in
    next-frozen c.args.job.now c.args.nodes.now c.requires c.in-Some.index c.in_ok-image.image.items is.0 (c.in_ok-image.ensures.items ∙ is.1)
