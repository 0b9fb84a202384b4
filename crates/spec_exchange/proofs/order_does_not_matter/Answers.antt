use Rattle.spec_exchange.proofs.UnionLemmas.{order-free, of-unions}
use Rattle.spec_exchange.proofs.order_does_not_matter.Goals as goal

pub returns-clause-order : goal.returns-clause-order
returns-clause-order c = order-free

pub returns-clause-unions : goal.returns-clause-unions
returns-clause-unions c = of-unions
