use Rattle.mal_turn.proofs.Wholes.{back_joined, back_whole}
use Rattle.mal_turn.proofs.laws.a_token_comes_back.Goals as goal

pub returns : goal.returns
returns c = record { joined = back_joined; whole = back_whole }
