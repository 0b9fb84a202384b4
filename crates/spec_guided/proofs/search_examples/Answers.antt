use Rattle.spec_guided.proofs.ExampleLemmas.{pieces, examples, search}
use Rattle.spec_guided.proofs.search_examples.Goals as goal

pub returns : goal.returns
returns c = record { pieces = pieces; searches = examples; longer = search }
