use Rattle.mal_hall.proofs.enter.enter_start.Goals as goal

pub returns-clause-lease : goal.returns-clause-lease
returns-clause-lease c = rw (c.index-index.ensures, c.start.ensures) at c.in_ok-lease.ensures.lease
