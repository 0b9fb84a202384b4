use Rattle.mal_answer.proofs.Losing.{none-lost}
use Rattle.mal_answer.proofs.laws.none_is_lost_unstopped.Goals as goal

pub returns : goal.returns
returns c = none-lost
