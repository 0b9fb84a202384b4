use Rattle.mal_freeze.proofs.AgainLemmas.{image_again}
use Rattle.mal_freeze.proofs.laws.spelled_is_read.Goals as goal

pub returns : goal.returns
returns c = image_again
