use Rattle.std.proofs.Common.{◌≡◌, ℕ, ◌≤◌, ◌⊎◌, inl, inr, List, [], ◌++◌, length, slice_range, drop, sym, ap, ◌∙◌, append-nil}
use Rattle.std.proofs.lemmas.List.{take_rest}
use Rattle.std.proofs.Math.ListN.{drop_of_length-le}
use Rattle.mal_base.specs.NumberedClause.{NumberedClause}
use Rattle.spec_exchange.specs.Exchange.{merged}
use Rattle.spec_exchange.proofs.UnionLemmas.{merged-nothing}

-- where one of two lists is gone over, what is left of both stands after what was merged
merged-rest : (xs ys all : List NumberedClause) (i j : ℕ) → (length xs ≤ i) ⊎ (length ys ≤ j) → merged xs ys ≡ all ++ merged (drop i xs) (drop j ys) → (all ++ drop i xs) ++ drop j ys ≡ merged xs ys
merged-rest xs ys all i j (inl h) e =
    let none : drop i xs ≡ [] = drop_of_length-le xs h in
    rw e (rw none (ap (λ (r : List NumberedClause). r ++ drop j ys) (append-nil all)))
merged-rest xs ys all i j (inr h) e =
    let none : drop j ys ≡ [] = drop_of_length-le ys h in
    rw e (rw none (append-nil (all ++ drop i xs) ∙ ap (λ (r : List NumberedClause). all ++ r) (sym (merged-nothing (drop i xs)))))

pub merged-end : (xs ys all : List NumberedClause) (i j : ℕ) → (length xs ≤ i) ⊎ (length ys ≤ j) → merged xs ys ≡ all ++ merged (drop i xs) (drop j ys) → (all ++ slice_range xs i (length xs)) ++ slice_range ys j (length ys) ≡ merged xs ys
merged-end xs ys all i j over e = rw (take_rest xs i, take_rest ys j) (merged-rest xs ys all i j over e)
