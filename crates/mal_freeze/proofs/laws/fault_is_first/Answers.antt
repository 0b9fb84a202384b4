use Rattle.mal_freeze.proofs.FirstLemmas.{fault-is_first}
use Rattle.mal_freeze.proofs.laws.fault_is_first.Goals as goal

pub returns : goal.returns
returns c = fault-is_first
