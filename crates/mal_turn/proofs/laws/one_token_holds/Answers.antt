use Rattle.mal_turn.proofs.Keeps.{one_holds, one_has, whole_alone}
use Rattle.mal_turn.proofs.laws.one_token_holds.Goals as goal

pub returns : goal.returns
returns g c = let stands = g.T.Recorded.stands in record { holds = one_holds stands; number = one_has stands; whole = whole_alone stands }
