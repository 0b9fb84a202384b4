use Rattle.mal_hall.proofs.PhaseLemmas.{phase-next}
use Rattle.mal_hall.proofs.hall.Hall.next.Goals as goal

pub returns : goal.returns
returns c = rw (← c.self.view_is) (phase-next _ _ c.self.invariant c.pick.ensures)
