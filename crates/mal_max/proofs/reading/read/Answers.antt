use Rattle.mal_max.proofs.InputLemmas.{read_served, read_spelled}
use Rattle.mal_max.proofs.reading.read.Goals as goal

pub returns-clause-spelled : goal.returns-clause-spelled
returns-clause-spelled c = read_spelled c.args.text.now c.first.result c.first.ensures

pub returns-clause-served : goal.returns-clause-served
returns-clause-served c = read_served c.args.text.now c.first.result c.first.ensures
