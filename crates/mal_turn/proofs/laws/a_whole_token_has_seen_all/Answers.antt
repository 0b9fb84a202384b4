use Rattle.mal_turn.proofs.Wholes.{whole_sees}
use Rattle.mal_turn.proofs.laws.a_whole_token_has_seen_all.Goals as goal

pub returns : goal.returns
returns g c = whole_sees g.T.Recorded.stands
