use Rattle.spec_solving.proofs.ServingLemmas.{slice-refuted}
use Rattle.spec_solving.proofs.slices_refute.Goals as goal

pub returns : goal.returns
returns c = slice-refuted
