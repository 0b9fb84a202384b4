use Rattle.spec_exchange.proofs.UnionLemmas.{union-sorted, union-least, decided}
use Rattle.spec_exchange.proofs.union_is_decided.Goals as goal

pub returns-clause-sorted : goal.returns-clause-sorted
returns-clause-sorted c = union-sorted

pub returns-clause-least : goal.returns-clause-least
returns-clause-least c = union-least

pub returns-clause-decided : goal.returns-clause-decided
returns-clause-decided c = decided
