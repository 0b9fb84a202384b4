use Rattle.spec_learn.proofs.ShorterLemmas.{shorter-small}
use Rattle.spec_learn.proofs.shorter_is_small.Goals as goal

pub returns : goal.returns
returns c = shorter-small
