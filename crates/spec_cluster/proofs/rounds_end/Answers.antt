use Rattle.spec_cluster.proofs.MeasureLemmas.{rounds-end}
use Rattle.spec_cluster.proofs.rounds_end.Goals as goal

pub returns : goal.returns
returns c = rounds-end
