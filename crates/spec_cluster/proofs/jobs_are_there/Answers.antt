use Rattle.spec_cluster.proofs.ThereLemmas.{jobs-are_there}
use Rattle.spec_cluster.proofs.jobs_are_there.Goals as goal

pub returns : goal.returns
returns c = jobs-are_there
