use Rattle.spec_dimacs.proofs.Merging.{within-same}
use Rattle.mal_dimacs.proofs.Made.{made_value, made_form}
use Rattle.mal_dimacs.proofs.pending.Pending.merge.Goals as goal

pub returns-clause-made : goal.returns-clause-made
returns-clause-made c = made_value _ _ _ c.sort.ensures.value c.sort.ensures.tautology c.sort.ensures.same

pub returns-clause-form : goal.returns-clause-form
returns-clause-form c = made_form _ _ _ _ c.requires c.sort.ensures.value c.sort.ensures.tautology c.sort.ensures.same

pub returns-clause-within : goal.returns-clause-within
returns-clause-within c = within-same _ _ _ c.sort.ensures.same c.requires
