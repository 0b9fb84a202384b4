use Rattle.std.proofs.Common.{rules, nat_lt, arith}
use Rattle.std.proofs.lemmas.List.Sorted.{IsPartitionPoint-from_clause}
use Rattle.spec_hall.specs.Seats.{Seat}
use Rattle.mal_seats.proofs.NumberLemmas.{numbers-part, place-point}
use Rattle.mal_seats.proofs.numbers.count_below.Goals as goal

pub returns : goal.returns
returns c =
    let part = numbers-part c.args.number c.args.seats.now c.requires in
    let point = IsPartitionPoint-from_clause (λ (s : Seat). nat_lt s.job.number c.args.number) _ _ c.partition_point.ensures.partitioned part (λ a r q k. search rules) in
    place-point c.args.number c.args.seats.now c.partition_point.result c.requires c.partition_point.ensures.bound (λ k d h. point.0 k d (omega arith) h) (λ k d h l. point.1 k d h l)
