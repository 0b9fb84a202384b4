use Rattle.spec_max.proofs.ExampleLemmas.{searches}
use Rattle.spec_max.proofs.search_examples.Goals as goal

pub returns : goal.returns
returns c = searches
