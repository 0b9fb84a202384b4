use Rattle.spec_learn.proofs.CoreClauseLemmas.{core-small}
use Rattle.spec_learn.proofs.core_is_small.Goals as goal

pub returns : goal.returns
returns c = core-small
