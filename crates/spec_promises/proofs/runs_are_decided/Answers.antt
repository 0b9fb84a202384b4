use Rattle.spec_promises.proofs.Clustered.{cluster_is_decided}
use Rattle.spec_promises.proofs.Searches.{max_is_decided, core_is_decided}
use Rattle.spec_promises.proofs.runs_are_decided.Goals as goal

pub returns-clause-optimum : goal.returns-clause-optimum
returns-clause-optimum c = max_is_decided

pub returns-clause-minimal : goal.returns-clause-minimal
returns-clause-minimal c = core_is_decided

pub returns-clause-cluster : goal.returns-clause-cluster
returns-clause-cluster c = cluster_is_decided
