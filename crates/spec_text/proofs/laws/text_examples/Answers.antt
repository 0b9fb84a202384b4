use Rattle.spec_text.proofs.Examples as examples
use Rattle.spec_text.proofs.laws.text_examples.Goals as goal

pub returns : goal.returns
returns c = examples.text_examples
