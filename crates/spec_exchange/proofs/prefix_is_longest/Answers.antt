use Rattle.spec_exchange.proofs.PrefixLemmas.{longest}
use Rattle.spec_exchange.proofs.prefix_is_longest.Goals as goal

pub returns : goal.returns
returns c = longest
