use Rattle.mal_hall.proofs.LookingLemmas.{live-hall}
use Rattle.mal_hall.proofs.hall.Hall.first_live.Goals as goal

pub returns : goal.returns
returns c = rw (← c.self.view_is) (live-hall _ _ c.self.invariant c.first_live.ensures)
