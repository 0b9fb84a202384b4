use Rattle.mal_lrat.proofs.Fronts.{clause-made, rising-made}
use Rattle.mal_lrat.proofs.reading.clause.Goals as goal

pub returns-in-Some : goal.returns-in-Some
returns-in-Some c = rising-made c.args.lits.now c.in_ok-clause.field-0 c.in-Some.clause c.in_ok-clause.ensures c.in-Some.is

pub returns-in-None : goal.returns-in-None
returns-in-None c = clause-made c.of_lits.result c.args.lits.now c.of_lits.ensures.none c.of_lits.ensures.rising c.of_lits.ensures.same
