use Rattle.spec_search.proofs.ModelLemmas.{step-leaves, steps-leave, slice-leaves}
use Rattle.spec_search.proofs.CountLemmas.{step-has_profile, slice-has_profile}
use Rattle.spec_search.proofs.slices_leave.Goals as goal

pub returns : goal.returns
returns c = record { step = step-leaves; steps = steps-leave; slice = slice-leaves; step_profile = step-has_profile; slice_profile = slice-has_profile }
