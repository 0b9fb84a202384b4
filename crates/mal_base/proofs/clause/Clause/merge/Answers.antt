use Rattle.mal_base.proofs.Tautologies.{tautology-from_sorted}
use Rattle.mal_base.proofs.clause.Clause.merge.Goals as goal

pub returns-clause-tautology : goal.returns-clause-tautology
returns-clause-tautology c = tautology-from_sorted _ _ c.sort.ensures.same c.sort.ensures.rising
