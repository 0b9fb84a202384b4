use Rattle.std.proofs.Common.{◌∙◌}
use Rattle.mal_hall.proofs.PhaseLemmas.{phase-lease}
use Rattle.mal_hall.proofs.hall.Hall.has_lease.Goals as goal

pub returns : goal.returns
returns c = rw (← c.self.view_is) (c.is_some.ensures ∙ phase-lease _ _ _ _ c.self.invariant c.deref.ensures.value c.requires c.spot_of.ensures)
