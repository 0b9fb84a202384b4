use Rattle.std.proofs.Common.{arith, rules}
use Rattle.std.proofs.lemmas.List.Sorted.{IsPermutation-refl, IsNonDecreasingBy-short, IsNonDecreasingBy-from_sort_by_key}
use Rattle.mal_watch.specs.declared.found.Found.{Found}
use Rattle.mal_watch.proofs.found.sort.Goals as goal

pub returns-then-len-lt2-clause-order : goal.returns-then-len-lt2-clause-order
returns-then-len-lt2-clause-order c = IsNonDecreasingBy-short (λ (f : Found). f.id) _ (omega (arith, c.if-len-lt2.true, c.len.ensures))

pub returns-then-len-lt2-clause-same : goal.returns-then-len-lt2-clause-same
returns-then-len-lt2-clause-same c = IsPermutation-refl _

pub returns-clause-order : goal.returns-clause-order
returns-clause-order c = IsNonDecreasingBy-from_sort_by_key (λ (f : Found). f.id) _ c.sort_unstable_by_key.ensures.sorted (λ a r q k. search rules)
