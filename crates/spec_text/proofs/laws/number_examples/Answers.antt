use Rattle.spec_text.proofs.Examples as examples
use Rattle.spec_text.proofs.laws.number_examples.Goals as goal

pub returns : goal.returns
returns c = examples.number_examples
