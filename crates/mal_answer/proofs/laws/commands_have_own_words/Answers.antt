use Rattle.mal_answer.proofs.Lawful.{have-own_words}
use Rattle.mal_answer.proofs.laws.commands_have_own_words.Goals as goal

pub returns : goal.returns
returns c = have-own_words
