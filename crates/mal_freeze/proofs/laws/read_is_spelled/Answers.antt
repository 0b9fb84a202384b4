use Rattle.mal_freeze.proofs.BeginsLemmas.{image_spelled}
use Rattle.mal_freeze.proofs.laws.read_is_spelled.Goals as goal

pub returns : goal.returns
returns c = image_spelled
