use Rattle.std.proofs.Common.{rules, ◌∙◌, List}
use Rattle.std.proofs.lemmas.Fn.{dedup_same}
use Rattle.std.proofs.lemmas.List.Sorted.{answers_always}
use Rattle.std.specs.List.Sorted.{IsSortedBy}
use Rattle.mal_base.specs.NumberedClause.{NumberedClause}
use Rattle.spec_exchange.specs.Order.{has_same_lits}
use Rattle.spec_exchange.proofs.SortLemmas.{comes_before, entries-rank, sorts-once}
use Rattle.mal_buffer.proofs.order.put_in_order.Goals as goal

pub returns : goal.returns
returns c =
    let sorted : List NumberedClause = c.sort_unstable_by.new.self.items in
    let up : IsSortedBy comes_before sorted = c.sort_unstable_by.ensures.sorted comes_before entries-rank (answers_always _ _ _ (λ f a r g k. search rules)) in
    dedup_same _ has_same_lits _ (λ x y b f x' y' k. search rules) _ _ c.dedup_by.ensures.filtered ∙ sorts-once c.args.entries.now.items sorted c.sort_unstable_by.ensures.permutation up
