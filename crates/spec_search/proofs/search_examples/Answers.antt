use Rattle.spec_search.proofs.ExampleLemmas.{examples}
use Rattle.spec_search.proofs.search_examples.Goals as goal

pub returns : goal.returns
returns c = examples
