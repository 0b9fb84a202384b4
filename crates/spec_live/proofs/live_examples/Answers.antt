use Rattle.spec_live.proofs.ExampleLemmas.{examples}
use Rattle.spec_live.proofs.live_examples.Goals as goal

pub returns : goal.returns
returns c = examples
