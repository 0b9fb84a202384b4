use Rattle.mal_hall.proofs.PhaseLemmas.{phase-first}
use Rattle.mal_hall.proofs.hall.Hall.first_exchange.Goals as goal

pub returns-clause-value : goal.returns-clause-value
returns-clause-value c = rw (← c.self.view_is) (phase-first _ _ c.self.invariant c.first_exchange.ensures)

pub returns-clause-legal : goal.returns-clause-legal
returns-clause-legal c = rw (← c.self.view_is) c.self.invariant.seated.legal

pub returns-clause-some : goal.returns-clause-some
returns-clause-some c = rw (← c.self.view_is) c.self.invariant.seated.some_worker
