use Rattle.spec_core.proofs.ExampleLemmas.{searches}
use Rattle.spec_core.proofs.search_examples.Goals as goal

pub returns : goal.returns
returns c = searches
