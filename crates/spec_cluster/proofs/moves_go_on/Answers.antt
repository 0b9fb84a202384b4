use Rattle.spec_cluster.proofs.GoesLemmas.{moves-go_on}
use Rattle.spec_cluster.proofs.moves_go_on.Goals as goal

pub returns : goal.returns
returns c = moves-go_on
