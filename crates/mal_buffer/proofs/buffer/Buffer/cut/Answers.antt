use Rattle.std.proofs.Common.{rules, ◌≡◌, List, sym, subst}
use Rattle.mal_base.specs.NumberedClause.{NumberedClause}
use Rattle.spec_exchange.specs.Exchange.{prefix}
use Rattle.spec_exchange.specs.Order.{IsSorted}
use Rattle.spec_exchange.proofs.PrefixLemmas.{prefix-sorted}
use Rattle.mal_buffer.proofs.buffer.Buffer.cut.Goals as goal

pub invariant_of-self : goal.invariant_of-self
invariant_of-self c =
    let same : c.truncate.new.self.items ≡ prefix c.args.literals c.self.inside.entries.items = search rules in
    subst (λ (es : List NumberedClause). IsSorted es) (sym same) (prefix-sorted c.args.literals c.self.inside.entries.items c.self.invariant)
