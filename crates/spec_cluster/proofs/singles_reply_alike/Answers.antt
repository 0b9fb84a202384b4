use Rattle.spec_cluster.proofs.AlikeLemmas.{singles-reply_alike}
use Rattle.spec_cluster.proofs.singles_reply_alike.Goals as goal

pub returns : goal.returns
returns c = singles-reply_alike
