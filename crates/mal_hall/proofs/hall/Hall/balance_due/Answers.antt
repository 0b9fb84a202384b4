use Rattle.mal_hall.proofs.PhaseLemmas.{balance-after}
use Rattle.mal_hall.proofs.hall.Hall.balance_due.Goals as goal

pub returns-clause-calm : goal.returns-clause-calm
returns-clause-calm c = balance-after _ _ _ c.is_due.ensures.some c.is_due.ensures.legal c.in-Ok.ensures.ok
