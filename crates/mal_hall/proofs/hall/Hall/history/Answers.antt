use Rattle.mal_hall.proofs.hall.Hall.history.Goals as goal

pub returns-clause-legal : goal.returns-clause-legal
returns-clause-legal c = rw (← c.self.view_is) c.self.invariant.seated.legal
