use Rattle.spec_cluster.proofs.GrowthLemmas.{growth-keeps}
use Rattle.spec_cluster.proofs.growth_keeps.Goals as goal

pub returns : goal.returns
returns c = growth-keeps
