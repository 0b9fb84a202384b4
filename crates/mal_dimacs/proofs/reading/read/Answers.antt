use Rattle.mal_dimacs.proofs.Answered.{spelled, answered, answered_again}
use Rattle.mal_dimacs.proofs.reading.read.Goals as goal

pub returns-clause-spelled : goal.returns-clause-spelled
returns-clause-spelled c = spelled c.first.result c.args.text.now c.first.ensures

pub returns-clause-read : goal.returns-clause-read
returns-clause-read c = λ f is. answered c.first.result c.args.text.now f c.first.ensures is

pub returns-clause-again : goal.returns-clause-again
returns-clause-again c = λ f h q. answered_again c.first.result c.args.text.now f c.first.ensures h q
