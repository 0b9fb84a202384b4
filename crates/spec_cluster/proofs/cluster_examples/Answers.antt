use Rattle.spec_cluster.proofs.ExampleLemmas.{rounds}
use Rattle.spec_cluster.proofs.cluster_examples.Goals as goal

pub returns : goal.returns
returns c = rounds
