use Rattle.std.proofs.Common.{◌≡◌, [], ◌∷◌, ◌++◌, IfOk, subst, sym}
use Rattle.spec_job.specs.SoloMachine.{Own, solo}
use Rattle.mal_parcel.specs.Owned.{own_of}
use Rattle.mal_parcel.specs.Replaying.{IsBefore, slices_left}
use Rattle.mal_parcel.proofs.ReplayedLemmas.{before-passes, before-low}
use Rattle.mal_parcel.proofs.following.enter.Goals as goal

pub take_up-requires-clause-may : goal.take_up-requires-clause-may
take_up-requires-clause-may c = before-passes (own_of c.args.event.now) c.args.job.now c.args.slices.now c.args.answers.now c.requires

pub take_up-requires-clause-low : goal.take_up-requires-clause-low
take_up-requires-clause-low c = before-low (own_of c.args.event.now) c.args.job.now c.args.slices.now c.args.answers.now c.requires

pub returns-in-Some-clause-slices : goal.returns-in-Some-clause-slices
returns-in-Some-clause-slices c = subst (λ (o : Own). IfOk c.follow_next.result (λ r. (b : IsBefore o c.args.job.now c.args.slices.now c.args.answers.now) → r.now ≡ slices_left (solo (b.past ++ o ∷ b.later)) (solo (b.past ++ o ∷ [])))) (sym c.in-Some.ensures) c.follow_next.ensures.slices
