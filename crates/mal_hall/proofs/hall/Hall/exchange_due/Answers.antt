use Rattle.mal_hall.proofs.PhaseLemmas.{exchange-after, exchange-left}
use Rattle.mal_hall.proofs.hall.Hall.exchange_due.Goals as goal

pub returns-clause-calm : goal.returns-clause-calm
returns-clause-calm c = exchange-after _ _ _ c.first_exchange.ensures.some c.first_exchange.ensures.legal c.in-Ok.ensures.ok

pub returns-clause-less : goal.returns-clause-less
returns-clause-less c = λ _. exchange-left _ _ _ c.first_exchange.ensures.some c.first_exchange.ensures.legal c.in-Ok.ensures.ok
