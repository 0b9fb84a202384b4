use Rattle.spec_proof.proofs.Staying.{lits-stay}
use Rattle.spec_proof.proofs.literals_stay.Goals as goal

pub returns : goal.returns
returns c = lits-stay
