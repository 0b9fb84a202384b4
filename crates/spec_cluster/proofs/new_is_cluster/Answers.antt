use Rattle.spec_cluster.proofs.CallKeepLemmas.{new-is_cluster}
use Rattle.spec_cluster.proofs.new_is_cluster.Goals as goal

pub returns : goal.returns
returns c = new-is_cluster
