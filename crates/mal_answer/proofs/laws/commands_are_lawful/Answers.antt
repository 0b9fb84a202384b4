use Rattle.mal_answer.proofs.Lawful.{are-lawful}
use Rattle.mal_answer.proofs.laws.commands_are_lawful.Goals as goal

pub returns : goal.returns
returns c = are-lawful
