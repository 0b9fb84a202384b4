use Rattle.spec_cluster.proofs.StayedLemmas.{all-is_evident}
use Rattle.spec_cluster.proofs.all_is_evident.Goals as goal

pub returns : goal.returns
returns c = all-is_evident
