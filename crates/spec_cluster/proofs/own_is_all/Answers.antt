use Rattle.spec_cluster.proofs.StayedLemmas.{own-is_all}
use Rattle.spec_cluster.proofs.own_is_all.Goals as goal

pub returns : goal.returns
returns c = own-is_all
