use Rattle.std.proofs.Common.{rules, nat_le, arith}
use Rattle.std.proofs.lemmas.List.Sorted.{IsPartitionedBy-leb, IsPartitionPoint-from_clause}
use Rattle.std.proofs.lemmas.Bool.{leb-true, leb-false}
use Rattle.mal_proof.specs.declared.chunk.Chunk.{Chunk}
use Rattle.mal_proof.proofs.Placing.{ends-rise}
use Rattle.mal_proof.proofs.chunk.chunks_before.Goals as goal

pub returns-clause-before : goal.returns-clause-before
returns-clause-before c =
    let parted = IsPartitionedBy-leb (λ (x : Chunk). x.end) c.args.chunks.now c.args.n (ends-rise 0 c.args.chunks.now c.requires) in
    let point = IsPartitionPoint-from_clause (λ (x : Chunk). nat_le x.end c.args.n) _ _ c.partition_point.ensures.partitioned parted (λ a r q k. search rules) in
    λ k d h. leb-true _ _ (point.0 k d (omega arith) (omega arith))

pub returns-clause-behind : goal.returns-clause-behind
returns-clause-behind c =
    let parted = IsPartitionedBy-leb (λ (x : Chunk). x.end) c.args.chunks.now c.args.n (ends-rise 0 c.args.chunks.now c.requires) in
    let point = IsPartitionPoint-from_clause (λ (x : Chunk). nat_le x.end c.args.n) _ _ c.partition_point.ensures.partitioned parted (λ a r q k. search rules) in
    λ k d h l. leb-false _ _ (point.1 k d (omega arith) l)
