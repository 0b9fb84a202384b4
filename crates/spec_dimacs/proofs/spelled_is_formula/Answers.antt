use Rattle.spec_dimacs.proofs.Laws as laws
use Rattle.spec_dimacs.proofs.spelled_is_formula.Goals as goal

pub returns : goal.returns
returns c = laws.spelled_is_formula
