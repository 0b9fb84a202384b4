use Rattle.std.proofs.Common.{List, sym, subst}
use Rattle.mal_base.specs.NumberedClause.{NumberedClause}
use Rattle.spec_exchange.specs.Order.{IsSorted}
use Rattle.spec_exchange.proofs.UnionLemmas.{union-sorted}
use Rattle.mal_buffer.proofs.buffer.Buffer.of.Goals as goal

pub invariant_of-result : goal.invariant_of-result
invariant_of-result c = subst (λ (es : List NumberedClause). IsSorted es) (sym c.put_in_order.ensures) (union-sorted c.args.entries.items)
