-- Literals among those that rise.
use Rattle.std.proofs.Common.{◌≡◌, ◌≢◌, ℕ, ◌<◌, ◌≤◌, Bool, true, false, List, ◌==◌, length, get_or, sym, ◌⊎◌, inl, inr, true≢false, arith}
use Rattle.std.specs.Prelude.{MatchBool, MatchResult, Result, Ok, Err, is_ok}
use Rattle.std.specs.List.{list_any}
use Rattle.std.specs.List.Sorted.{IsNonDecreasing, IsBinarySearchResult}
use Rattle.std.specs.Ordering.{nat_cmp}
use Rattle.std.proofs.lemmas.Bool.{ne_eqb, eq-eqb, cases_lt}
use Rattle.std.proofs.lemmas.List.Elements.{All-from_get_or}
use Rattle.std.proofs.lemmas.List.Folds.{list_any_at, list_any_none}
use Rattle.std.proofs.lemmas.List.Sorted.{searched}

-- what holds where a test answers yes
pub where-true : (r : Bool) (P Q : Type 0) → MatchBool r P Q → r ≡ true → P
where-true true P Q h e = h
where-true false P Q h e = absurd (true≢false (sym e))

-- a binary search finds a number exactly where it is one of those that rise
pub found-is-any : (xs : List ℕ) (x : ℕ) (r : Result ℕ ℕ) → IsNonDecreasing xs → IsBinarySearchResult (λ y. nat_cmp y x) xs r → is_ok r ≡ list_any (λ a. a == x) xs
found-is-any xs x r up is = by_result r (searched xs x r is (λ i j h k. up i j 0 h k))
  where
    by_result : (r : Result ℕ ℕ) → MatchResult r (λ i. (i < length xs) × (get_or xs i 0 ≡ x)) (λ i. (i ≤ length xs) × ((k : ℕ) → k < i → get_or xs k 0 < x) × ((k : ℕ) → i ≤ k → k < length xs → x < get_or xs k 0))
        → is_ok r ≡ list_any (λ a. a == x) xs
    by_result (Ok i) h = sym (list_any_at (λ a. a == x) xs i 0 h.0 (eq-eqb (get_or xs i 0) x h.1))
    by_result (Err i) h = sym (list_any_none (λ a. a == x) xs (All-from_get_or (λ a. (a == x) ≡ false) xs 0 (λ k l. ne_eqb (get_or xs k 0) x (other i h.1 h.2 k l (cases_lt k i)))))
      where
        other : (i : ℕ) → ((k : ℕ) → k < i → get_or xs k 0 < x) → ((k : ℕ) → i ≤ k → k < length xs → x < get_or xs k 0) → (k : ℕ) → k < length xs → (k < i) ⊎ (i ≤ k) → get_or xs k 0 ≢ x
        other i below above k l (inl a) e = let low : get_or xs k 0 < x = below k a in omega arith
        other i below above k l (inr g) e = let high : x < get_or xs k 0 = above k g l in omega arith
