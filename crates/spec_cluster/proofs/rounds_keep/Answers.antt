use Rattle.spec_cluster.proofs.RoundLemmas.{rounds-keep}
use Rattle.spec_cluster.proofs.rounds_keep.Goals as goal

pub returns : goal.returns
returns c = rounds-keep
