use Rattle.mal_hall.proofs.ApplyLemmas.{answered-test}
use Rattle.mal_hall.proofs.hall.Hall.is_answered.Goals as goal

pub returns : goal.returns
returns c = rw (← c.self.view_is) (answered-test _ _ c.self.invariant c.is_answered.ensures)
