use Rattle.spec_inquiry.proofs.ExampleLemmas.{rounds, tells-of_both}
use Rattle.spec_inquiry.proofs.inquiry_examples.Goals as goal

pub returns : goal.returns
returns c = record { rounds = rounds; told = tells-of_both }
