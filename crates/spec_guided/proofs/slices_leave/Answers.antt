use Rattle.spec_guided.proofs.SliceLemmas.{step-leaves, slice-leaves}
use Rattle.spec_guided.proofs.slices_leave.Goals as goal

pub returns : goal.returns
returns c = record { step = step-leaves; slice = slice-leaves }
