use Rattle.spec_cluster.proofs.MoveLemmas.{move-keeps}
use Rattle.spec_cluster.proofs.move_keeps.Goals as goal

pub returns : goal.returns
returns c = move-keeps
