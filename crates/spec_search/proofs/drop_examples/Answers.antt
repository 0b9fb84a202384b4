use Rattle.spec_search.proofs.ExampleLemmas.{has-drops, has-profiles}
use Rattle.spec_search.proofs.drop_examples.Goals as goal

pub returns : goal.returns
returns c = record { drops = has-drops; profiles = has-profiles }
