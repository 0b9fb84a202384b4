use Rattle.mal_turn.proofs.Wholes.{many_whole, joined_whole}
use Rattle.mal_turn.proofs.laws.joined_tokens_are_whole.Goals as goal

pub returns : goal.returns
returns c = record { many = many_whole; all = joined_whole }
