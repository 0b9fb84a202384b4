use Rattle.std.proofs.Common.{rules}
use Rattle.std.proofs.lemmas.List.Sorted.{IsNonDecreasingBy-from_sort_by_key}
use Rattle.mal_base.specs.NumberedClause.{Line}
use Rattle.spec_proof.proofs.OrderLemmas.{sorted-is}
use Rattle.mal_proof.proofs.lent.sort.Goals as goal

pub returns : goal.returns
returns c =
    sorted-is c.args.lines.now.items c.sort_unstable_by_key.new.self.items c.requires c.sort_unstable_by_key.ensures.permutation
    (IsNonDecreasingBy-from_sort_by_key (λ (l : Line). l.id) _ c.sort_unstable_by_key.ensures.sorted (λ a r q k. search rules))
