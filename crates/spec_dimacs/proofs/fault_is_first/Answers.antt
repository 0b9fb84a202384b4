use Rattle.spec_dimacs.proofs.Firsts as firsts
use Rattle.spec_dimacs.proofs.fault_is_first.Goals as goal

pub returns : goal.returns
returns c = firsts.fault_is_first
