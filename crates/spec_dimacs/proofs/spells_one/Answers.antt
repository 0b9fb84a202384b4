use Rattle.spec_dimacs.proofs.Laws as laws
use Rattle.spec_dimacs.proofs.spells_one.Goals as goal

pub returns : goal.returns
returns c = laws.spells_one
