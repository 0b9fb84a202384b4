use Rattle.mal_base.specs.Limits.{limits}
use Rattle.mal_json.proofs.Found.{found_again, found_formed, found_spelled, only_spelled}
use Rattle.mal_json.proofs.reading.read.Goals as goal

pub returns-clause-found : goal.returns-clause-found
returns-clause-found c = found_spelled limits c.args.text.now c.first.result c.first.ensures

pub returns-clause-only : goal.returns-clause-only
returns-clause-only c = only_spelled limits c.args.text.now c.first.result c.first.ensures

pub returns-clause-formed : goal.returns-clause-formed
returns-clause-formed c = found_formed limits c.args.text.now c.first.result c.first.ensures

pub returns-clause-again : goal.returns-clause-again
returns-clause-again c = found_again limits c.args.text.now c.first.result c.first.ensures
