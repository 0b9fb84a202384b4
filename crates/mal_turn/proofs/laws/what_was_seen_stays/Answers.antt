use Rattle.mal_turn.proofs.Lists.{part-begins}
use Rattle.mal_turn.proofs.Wholes.{begins_later}
use Rattle.mal_turn.proofs.laws.what_was_seen_stays.Goals as goal

pub returns : goal.returns
returns g c = record { later = begins_later; part = part-begins }
