use Rattle.spec_dimacs.proofs.Laws as laws
use Rattle.spec_dimacs.proofs.spelling_is_read.Goals as goal

pub returns : goal.returns
returns c = laws.spelling_is_read
