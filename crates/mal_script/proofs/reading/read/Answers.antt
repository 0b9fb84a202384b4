use Rattle.mal_base.specs.Limits.{limits}
use Rattle.mal_script.proofs.Found.{found-spelled, found-within, found-formed, only-spelled, again-read}
use Rattle.mal_script.proofs.reading.read.Goals as goal

pub returns-clause-found : goal.returns-clause-found
returns-clause-found c = found-spelled limits c.args.text.now c.first.result c.first.ensures

pub returns-clause-within : goal.returns-clause-within
returns-clause-within c = found-within limits c.args.text.now c.first.result c.first.ensures

pub returns-clause-only : goal.returns-clause-only
returns-clause-only c = only-spelled limits c.args.text.now c.first.result c.first.ensures

pub returns-clause-again : goal.returns-clause-again
returns-clause-again c = again-read limits c.args.text.now c.first.result c.first.ensures

pub returns-clause-formed : goal.returns-clause-formed
returns-clause-formed c = found-formed limits c.args.text.now c.first.result c.first.ensures
