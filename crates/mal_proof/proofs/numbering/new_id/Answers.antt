use Rattle.std.proofs.Common.{◌∙◌}
use Rattle.mal_proof.proofs.Marking.{new-missing, new-found}
use Rattle.mal_proof.proofs.numbering.new_id.Goals as goal

pub returns-in-None : goal.returns-in-None
returns-in-None c = new-missing c.args.m c.args.ids.now c.args.id c.in-None.ensures

pub returns-in-Some : goal.returns-in-Some
returns-in-Some c = c.numbered.ensures ∙ new-found c.args.m c.args.ids.now c.in-Some.place c.args.id c.requires.rising c.in-Some.ensures.0 c.in-Some.ensures.1
