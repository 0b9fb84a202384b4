use Rattle.mal_account.proofs.Parts.{found-spelled, only-spelled, again-read}
use Rattle.mal_account.proofs.reading.read.Goals as goal

pub returns-clause-found : goal.returns-clause-found
returns-clause-found c = found-spelled c.args.text.now c.first.result c.first.ensures

pub returns-clause-only : goal.returns-clause-only
returns-clause-only c = only-spelled c.args.text.now c.first.result c.first.ensures

pub returns-clause-again : goal.returns-clause-again
returns-clause-again c = again-read c.args.text.now c.first.result c.first.ensures
