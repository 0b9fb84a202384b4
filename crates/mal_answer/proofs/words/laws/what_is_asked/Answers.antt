use Rattle.mal_answer.proofs.Meanings.{asked-is_asks}
use Rattle.mal_answer.proofs.words.laws.what_is_asked.Goals as goal

pub returns : goal.returns
returns c = asked-is_asks
