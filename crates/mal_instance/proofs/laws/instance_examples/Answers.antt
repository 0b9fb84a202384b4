use Rattle.mal_instance.proofs.ExampleLemmas.{examples}
use Rattle.mal_instance.proofs.laws.instance_examples.Goals as goal

pub returns : goal.returns
returns c = examples
