use Rattle.spec_promises.proofs.Examples.{headings}
use Rattle.spec_promises.proofs.Replied.{run_replies_to_all, replay_replies_to_all, cluster_replies_to_all}
use Rattle.spec_promises.proofs.all_are_replied_to.Goals as goal

pub returns-clause-run : goal.returns-clause-run
returns-clause-run c = run_replies_to_all

pub returns-clause-replay : goal.returns-clause-replay
returns-clause-replay c = replay_replies_to_all

pub returns-clause-cluster : goal.returns-clause-cluster
returns-clause-cluster c = cluster_replies_to_all

pub returns-clause-examples : goal.returns-clause-examples
returns-clause-examples c = headings
