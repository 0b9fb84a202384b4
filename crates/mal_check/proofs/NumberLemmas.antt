-- The clauses of a formula under the numbers 1, 2, ..
use Rattle.std.proofs.Common.{◌≡◌, ℕ, zero, suc, ◌+◌, ◌-◌, ◌<◌, Bool, false, cond, eqb, List, [], ◌∷◌, ◌++◌, slice_get, length, take, get_or, Option, Some, None, sym, ap, ap₂, ◌∙◌, inl, inr, ◌⊎◌, arith}
use Rattle.std.proofs.Math.Path.{fun_ext}
use Rattle.std.proofs.lemmas.List.{length_push, take_more, length-take-le}
use Rattle.std.proofs.lemmas.Option.{slice_get_past}
use Rattle.std.proofs.lemmas.Bool.{cases_order, eq-eqb, ne_eqb}
use Rattle.spec_logic.specs.Derivation.{Holding}
use Rattle.spec_logic.specs.Refutation.{numbered, with_clause}
use Rattle.mal_check.proofs.PlaceLemmas.{get-front, get-last}

-- no number is held after the last one
pub numbered-past : (xs : List (Option (List ℕ))) (id : ℕ) → length xs < id → numbered xs id ≡ None
numbered-past xs id high = ap (λ (b : Bool). cond b None (slice_get xs (id - 1))) (ne_eqb id 0 (λ e. omega arith)) ∙ slice_get_past xs (id - 1) (omega arith)

-- one clause more carries the next number
pub numbered-push : (xs : List (Option (List ℕ))) (c : Option (List ℕ)) → with_clause (numbered xs) (length xs + 1) c ≡ numbered (xs ++ c ∷ [])
numbered-push xs c = fun_ext at
  where
    by_order : (k : ℕ) → (k ≡ length xs) ⊎ ((k < length xs) ⊎ (length xs < k)) → cond (eqb (suc k) (length xs + 1)) (Some c) (slice_get xs k) ≡ slice_get (xs ++ c ∷ []) k
    by_order k (inl e) = ap (λ (b : Bool). cond b (Some c) (slice_get xs k)) (eq-eqb (suc k) (length xs + 1) (omega arith)) ∙ sym (ap (slice_get (xs ++ c ∷ [])) e ∙ get-last xs c)
    by_order k (inr (inl l)) = ap (λ (b : Bool). cond b (Some c) (slice_get xs k)) (ne_eqb (suc k) (length xs + 1) (λ e. omega arith)) ∙ sym (get-front xs (c ∷ []) k l)
    by_order k (inr (inr g)) = ap (λ (b : Bool). cond b (Some c) (slice_get xs k)) (ne_eqb (suc k) (length xs + 1) (λ e. omega arith)) ∙ (slice_get_past xs k (omega arith) ∙ sym (slice_get_past (xs ++ c ∷ []) k (omega (arith, length_push xs c))))

    at : (q : ℕ) → with_clause (numbered xs) (length xs + 1) c q ≡ numbered (xs ++ c ∷ []) q
    at zero = ap (λ (b : Bool). cond b (Some c) (numbered xs 0)) (ne_eqb 0 (length xs + 1) (λ e. omega arith))
    at (suc k) =
        let some : eqb (suc k) 0 ≡ false = ne_eqb (suc k) 0 (λ e. omega arith) in
        let less : suc k - 1 ≡ k = omega arith in
        rw (some, less) (by_order k (cases_order k (length xs)))

-- the same of the front of a list
pub numbered-next : (held : Holding) (xs : List (Option (List ℕ))) (i id : ℕ) (c d : Option (List ℕ)) → i < length xs → held ≡ numbered (take i xs) → id ≡ i + 1 → c ≡ get_or xs i d → with_clause held id c ≡ numbered (take (i + 1) xs)
numbered-next held xs i id c d low e f g =
    let front : length (take i xs) ≡ i = length-take-le i xs (omega arith) in
    ap₂ (λ (h : Holding) (n : ℕ). with_clause h n c) e (f ∙ ap (λ (n : ℕ). n + 1) (sym front))
    ∙ (numbered-push (take i xs) c ∙ ap numbered (ap (λ (x : Option (List ℕ)). take i xs ++ x ∷ []) g ∙ sym (take_more xs i d low)))

pub originals-next : (xs ys zs : List (Option (List ℕ))) (i : ℕ) (c d : Option (List ℕ)) → i < length xs → ys ≡ take i xs → zs ≡ ys ++ c ∷ [] → c ≡ get_or xs i d → zs ≡ take (i + 1) xs
originals-next xs ys zs i c d low e f g = f ∙ (ap₂ (λ (us : List (Option (List ℕ))) (x : Option (List ℕ)). us ++ x ∷ []) e g ∙ sym (take_more xs i d low))
