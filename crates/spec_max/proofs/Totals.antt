use Rattle.std.proofs.Common.{◌≡◌, ℕ, zero, suc, ◌+◌, ◌≤◌, Bool, true, false, cond, not, List, [], ◌∷◌, length, take, refl, sym, ap, ap₂, ◌∙◌, arith}
use Rattle.std.proofs.lemmas.List.{take_all}
use Rattle.std.proofs.lemmas.List.Sums.{sum_by-cons}
use Rattle.spec_logic.specs.Logic.{is_true_in}
use Rattle.spec_max.specs.Cost.{cost}
use Rattle.spec_max.proofs.Rows.{after}

-- the count after literals, from a count on
abbrev pub total : List Bool → ℕ → List ℕ → ℕ
total e c [] = c
total e c (l ∷ ls) = total e (after e c l) ls

total-is : (e : List Bool) (c : ℕ) (ls : List ℕ) → total e c ls ≡ c + cost ls e
total-is e c [] = omega arith
total-is e c (l ∷ ls) = total-is e (after e c l) ls ∙ by_value (is_true_in e l) ∙ ap (λ (k : ℕ). c + k) (sym (sum_by-cons (λ x. cond (not (is_true_in e x)) 1 0) l ls))
  where
    by_value : (b : Bool) → cond b c (suc c) + cost ls e ≡ c + (cond (not b) 1 0 + cost ls e)
    by_value true = omega arith
    by_value false = omega arith

pub total-cost : (e : List Bool) (ls : List ℕ) → total e 0 ls ≡ cost ls e
total-cost e ls = total-is e 0 ls ∙ none (cost ls e)
  where
    none : (k : ℕ) → 0 + k ≡ k
    none k = omega arith

-- two assignments agree on these literals
abbrev pub Same : List Bool → List Bool → List ℕ → Type 0
Same e a [] = Unit {0}
Same e a (l ∷ ls) = (is_true_in e l ≡ is_true_in a l) × Same e a ls

pub same-cost : (e a : List Bool) (ls : List ℕ) → Same e a ls → cost ls e ≡ cost ls a
same-cost e a [] h = refl
same-cost e a (l ∷ ls) h =
    sum_by-cons (λ x. cond (not (is_true_in e x)) 1 0) l ls
    ∙ ap₂ (λ (b : Bool) (k : ℕ). cond (not b) 1 0 + k) h.0 (same-cost e a ls h.1)
    ∙ sym (sum_by-cons (λ x. cond (not (is_true_in a x)) 1 0) l ls)

pub same-take : (e a : List Bool) (m : ℕ) (ls : List ℕ) → Same e a ls → Same e a (take m ls)
same-take e a zero ls h = tt
same-take e a (suc m) [] h = tt
same-take e a (suc m) (l ∷ ls) h = (h.0, same-take e a m ls h.1)

pub take-whole : (ls : List ℕ) → take (length ls) ls ≡ ls
take-whole ls = take_all (length ls) ls (omega arith)

pub take-less : (m : ℕ) (ls : List ℕ) → length (take m ls) ≤ length ls
take-less zero ls = omega arith
take-less (suc m) [] = omega arith
take-less (suc m) (l ∷ ls) = let less = take-less m ls in omega arith
