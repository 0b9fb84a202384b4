use Rattle.mal_turn.proofs.Wholes.{extends}
use Rattle.mal_turn.proofs.laws.a_turn_adds_one_entry.Goals as goal

pub returns : goal.returns
returns g c = extends
