use Rattle.mal_core.proofs.ExampleLemmas.{texts}
use Rattle.mal_core.proofs.core_laws.text_examples.Goals as goal

pub returns : goal.returns
returns c = texts
