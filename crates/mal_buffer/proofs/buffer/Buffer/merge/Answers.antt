use Rattle.std.proofs.Common.{rules, ◌≡◌, ◌++◌, List, sym, subst, ◌∙◌}
use Rattle.mal_base.specs.NumberedClause.{NumberedClause}
use Rattle.spec_exchange.specs.Exchange.{union, merged}
use Rattle.spec_exchange.specs.Order.{IsSorted}
use Rattle.spec_exchange.proofs.UnionLemmas.{merged-sorted, merged-union}
use Rattle.mal_buffer.proofs.buffer.Buffer.merge.Goals as goal

pub invariant_of-result : goal.invariant_of-result
invariant_of-result c =
    let same : c.in_ok-entries.entries.items ≡ merged c.one.inside.entries.items c.other.inside.entries.items = search rules in
    subst (λ (es : List NumberedClause). IsSorted es) (sym same) (merged-sorted c.one.inside.entries.items c.other.inside.entries.items c.one.invariant c.other.invariant)

pub returns : goal.returns
returns c =
    let same : c.in_ok-entries.entries.items ≡ merged c.one.inside.entries.items c.other.inside.entries.items = search rules in
    let whole : merged c.one.inside.entries.items c.other.inside.entries.items ≡ union (c.one.inside.entries.items ++ c.other.inside.entries.items) = merged-union c.one.inside.entries.items c.other.inside.entries.items c.one.invariant c.other.invariant in
    search (rules, same ∙ whole)
