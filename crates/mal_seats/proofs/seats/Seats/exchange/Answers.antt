use Rattle.std.proofs.Common.{rules}
use Rattle.mal_seats.proofs.ChangedLemmas.{stepped-same}
use Rattle.mal_seats.proofs.seats.Seats.exchange.Goals as goal

pub returns-clause-err : goal.returns-clause-err
returns-clause-err c = stepped-same c.change.result _ _ _ _ c.change.ensures (λ s t gave. search rules)
