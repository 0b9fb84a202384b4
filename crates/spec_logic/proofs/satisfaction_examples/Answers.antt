use Rattle.spec_logic.proofs.ExampleLemmas.{examples}
use Rattle.spec_logic.proofs.satisfaction_examples.Goals as goal

pub returns : goal.returns
returns c = examples
