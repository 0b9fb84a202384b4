use Rattle.spec_cluster.proofs.SingleMoveLemmas.{singles-agree}
use Rattle.spec_cluster.proofs.singles_agree.Goals as goal

pub returns : goal.returns
returns c = singles-agree
