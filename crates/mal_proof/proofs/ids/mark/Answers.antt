use Rattle.std.proofs.Common.{◌∙◌}
use Rattle.mal_proof.proofs.Marking.{missing-marked, mark-there}
use Rattle.mal_proof.proofs.ids.mark.Goals as goal

pub returns-in-None : goal.returns-in-None
returns-in-None c = λ test e. e ∙ missing-marked test c.args.ids.now c.args.id c.in-None.ensures

pub returns-in-Some : goal.returns-in-Some
returns-in-Some c = λ test e. mark-there test c.args.ids.now c.args.marks.now c.in-Some.place c.args.id c.requires.rising c.in-Some.ensures.0 c.in-Some.ensures.1 e
