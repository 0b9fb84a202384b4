use Rattle.spec_proof.proofs.Deriving.{derived-more}
use Rattle.spec_proof.proofs.derived_with_more.Goals as goal

pub returns : goal.returns
returns c = derived-more
