use Rattle.mal_core.proofs.InputExampleLemmas.{inputs}
use Rattle.mal_core.proofs.input_laws.input_examples.Goals as goal

pub returns : goal.returns
returns c = inputs
