use Rattle.spec_exchange.proofs.Examples.{examples}
use Rattle.spec_exchange.proofs.exchange_examples.Goals as goal

pub returns : goal.returns
returns c = examples
