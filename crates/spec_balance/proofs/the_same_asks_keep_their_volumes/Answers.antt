use Rattle.spec_balance.proofs.Front.{keeps}
use Rattle.spec_balance.proofs.the_same_asks_keep_their_volumes.Goals as goal

pub returns : goal.returns
returns c = keeps
