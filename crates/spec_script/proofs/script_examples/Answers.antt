use Rattle.spec_script.proofs.ExampleLemmas.{examples}
use Rattle.spec_script.proofs.script_examples.Goals as goal

pub returns : goal.returns
returns c = examples
