use Rattle.std.proofs.Common.{sym, subst}
use Rattle.spec_dimacs.specs.Merged.{IsClauseOf}
use Rattle.spec_dimacs.proofs.Merging.{clause_of-made, clause_of-unique}
use Rattle.spec_lrat.specs.Laws.{MakesOneClause}

pub one_clause : MakesOneClause
one_clause lits c = (λ made. sym (clause_of-unique lits c made), λ e. subst (IsClauseOf lits) e (clause_of-made lits))
