use Rattle.std.proofs.Common.{◌≡◌, ◌<◌, ◌≤◌, ℕ, zero, suc, Bool, true, false, List, [], ◌∷◌, length, get_or, Result, is_ok, Ok, Err, refl, arith, sym}
use Rattle.std.specs.Prelude.{◌==◌, nat_lt}
use Rattle.std.specs.List.{list_any}
use Rattle.std.specs.Result.{MatchResult}
use Rattle.std.proofs.lemmas.List.Folds.{list_any_at, list_any_none}
use Rattle.std.proofs.lemmas.Bool.{ne_eqb, eq-eqb, ltb-true, ltb-false}

get_or-same : (xs : List ℕ) (k : ℕ) (d e : ℕ) → k < length xs → get_or xs k d ≡ get_or xs k e
get_or-same [] k d e l = absurd (omega arith)
get_or-same (x ∷ xs) zero d e l = refl
get_or-same (x ∷ xs) (suc k) d e l = get_or-same xs k d e (omega arith)

-- a search that found a number, or where it would stand, tells whether it is there
pub found-any : (ids : List ℕ) (id : ℕ) (r : Result ℕ ℕ) → MatchResult r (λ i. (i < length ids) × (get_or ids i 0 ≡ id)) (λ i. (i ≤ length ids) × ((k : ℕ) → k < i → get_or ids k 0 < id) × ((k : ℕ) → i ≤ k → k < length ids → id < get_or ids k 0)) → is_ok r ≡ list_any (λ (i : ℕ). i == id) ids
found-any ids id (Ok i) h = sym (list_any_at (λ (j : ℕ). j == id) ids i 0 h.0 (eq-eqb (get_or ids i 0) id h.1))
found-any ids id (Err i) h = sym (list_any_none (λ (j : ℕ). j == id) ids (λ k d l. rw (get_or-same ids k d 0 l) (ne_eqb (get_or ids k 0) id (λ e. by_order k l e (nat_lt k i) refl))))
  where
    by_order : (k : ℕ) → k < length ids → get_or ids k 0 ≡ id → (b : Bool) → nat_lt k i ≡ b → ⊥
    by_order k l e true q = omega (arith, e, h.1 k (ltb-true k i q))
    by_order k l e false q = omega (arith, e, h.2 k (ltb-false k i q) l)
