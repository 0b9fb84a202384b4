use Rattle.mal_answer.proofs.Replied.{replies-counted}
use Rattle.mal_answer.proofs.laws.replies_are_counted.Goals as goal

pub returns : goal.returns
returns c = replies-counted
