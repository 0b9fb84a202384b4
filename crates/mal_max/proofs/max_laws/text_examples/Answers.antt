use Rattle.mal_max.proofs.ExampleLemmas.{texts}
use Rattle.mal_max.proofs.max_laws.text_examples.Goals as goal

pub returns : goal.returns
returns c = texts
