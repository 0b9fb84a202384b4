use Rattle.std.proofs.Common.{rules, nat_lt, arith, ℕ}
use Rattle.std.proofs.lemmas.List.Sorted.{IsPartitionPoint-from_clause}
use Rattle.mal_store.proofs.EntryLemmas.{test_lt, test_not}
use Rattle.mal_store.proofs.ShortLemmas.{numbers-part}
use Rattle.mal_store.proofs.ids.place_of.Goals as goal

pub returns-clause-below : goal.returns-clause-below
returns-clause-below c =
    let parted = numbers-part c.args.id c.args.ids.now c.requires in
    let point = IsPartitionPoint-from_clause (λ (n : ℕ). nat_lt n c.args.id) _ _ c.partition_point.ensures.partitioned parted (λ a r q k. search rules) in
    λ k d h. test_lt _ _ (point.0 k d (omega arith) h)

pub returns-clause-above : goal.returns-clause-above
returns-clause-above c =
    let parted = numbers-part c.args.id c.args.ids.now c.requires in
    let point = IsPartitionPoint-from_clause (λ (n : ℕ). nat_lt n c.args.id) _ _ c.partition_point.ensures.partitioned parted (λ a r q k. search rules) in
    λ k d h l. test_not _ _ (point.1 k d h l)
