use Rattle.std.proofs.Common.{rules, nat_lt, arith}
use Rattle.std.proofs.lemmas.List.Sorted.{IsPartitionPoint-from_clause}
use Rattle.mal_marks.specs.declared.mark.Mark.{Mark}
use Rattle.mal_marks.proofs.MarkLemmas.{marks-part, test_lt, test_not}
use Rattle.mal_marks.proofs.search.place_of.Goals as goal

pub returns-clause-below : goal.returns-clause-below
returns-clause-below c =
    let parted = marks-part c.args.id c.args.marks.now c.requires in
    let point = IsPartitionPoint-from_clause (λ (m : Mark). nat_lt m.id c.args.id) _ _ c.partition_point.ensures.partitioned parted (λ a r q k. search rules) in
    λ k d h. test_lt _ _ (point.0 k d (omega arith) h)

pub returns-clause-above : goal.returns-clause-above
returns-clause-above c =
    let parted = marks-part c.args.id c.args.marks.now c.requires in
    let point = IsPartitionPoint-from_clause (λ (m : Mark). nat_lt m.id c.args.id) _ _ c.partition_point.ensures.partitioned parted (λ a r q k. search rules) in
    λ k d h l. test_not _ _ (point.1 k d h l)
