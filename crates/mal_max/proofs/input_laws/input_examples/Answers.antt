use Rattle.mal_max.proofs.InputExampleLemmas.{inputs}
use Rattle.mal_max.proofs.input_laws.input_examples.Goals as goal

pub returns : goal.returns
returns c = inputs
