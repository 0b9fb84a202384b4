use Rattle.spec_cluster.proofs.DealtLemmas.{dealt-is_script}
use Rattle.spec_cluster.proofs.PostedLemmas.{posted-is_cluster}
use Rattle.spec_cluster.proofs.posted_is_cluster.Goals as goal

pub returns : goal.returns
returns c = record { scripts = dealt-is_script; cluster = posted-is_cluster }
