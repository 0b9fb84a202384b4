use Rattle.mal_answer.proofs.Meanings.{one_meaning}
use Rattle.mal_answer.proofs.words.laws.words_have_one_meaning.Goals as goal

pub returns : goal.returns
returns c = one_meaning
