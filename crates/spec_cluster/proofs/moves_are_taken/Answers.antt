use Rattle.spec_cluster.proofs.TakenLemmas.{moves-are_taken}
use Rattle.spec_cluster.proofs.moves_are_taken.Goals as goal

pub returns : goal.returns
returns c = moves-are_taken
