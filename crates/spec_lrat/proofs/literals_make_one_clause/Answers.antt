use Rattle.spec_lrat.proofs.MergedLemmas.{one_clause}
use Rattle.spec_lrat.proofs.literals_make_one_clause.Goals as goal

pub returns : goal.returns
returns c = one_clause
