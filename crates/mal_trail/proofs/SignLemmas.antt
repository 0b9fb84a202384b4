use Rattle.std.proofs.Common.{◌≡◌, ℕ, ◌+◌, ◌-◌, ◌/◌, ◌%◌, Bool, true, false, eqb, cond, List, refl, sym, ap, ◌∙◌, arith}
use Rattle.std.specs.Prelude.{nat_eq}
use Rattle.std.specs.List.{IsDistinct}
use Rattle.std.proofs.lemmas.Bool.{false≢true, false_from_ne_true}
use Rattle.std.proofs.lemmas.Bool.Decides.{nat_tests}
use Rattle.mal_base.specs.Literals.{literal, negated}
use Rattle.mal_base.specs.declared.trail_entry.TrailEntry.{TrailEntry}
use Rattle.spec_node.specs.Value.{is_true, vars_of}
use Rattle.mal_trail.proofs.PlaceLemmas.{not-both}

even_of : (a : ℕ) → nat_eq (a % 2) 0 ≡ true → a % 2 ≡ 0
even_of a = grind (arith, nat_tests)

not_even : (a : ℕ) → nat_eq (a % 2) 0 ≡ false → a % 2 ≡ 0 → ⊥
not_even a = grind (arith, nat_tests)

-- of a literal and its negation one alone is true, where no variable stands twice
pub never-both : (entries : List TrailEntry) (l : ℕ) → IsDistinct eqb (vars_of entries) → is_true entries l ≡ true → is_true entries (negated l) ≡ false
never-both entries l d t = by_sign (nat_eq (l % 2) 0) refl
  where
    by_sign : (b : Bool) → nat_eq (l % 2) 0 ≡ b → is_true entries (cond b (l + 1) (l - 1)) ≡ false
    by_sign true q =
        let even : l % 2 ≡ 0 = even_of l q in
        let plus : literal (l / 2) true ≡ l = omega arith in
        let minus : l + 1 ≡ literal (l / 2) false = omega arith in
        ap (λ (x : ℕ). is_true entries x) minus ∙ not-both entries (l / 2) d (ap (λ (x : ℕ). is_true entries x) plus ∙ t)
    by_sign false q =
        let odd : l % 2 ≡ 1 = let n = not_even l q in omega arith in
        let plus : literal (l / 2) true ≡ l - 1 = omega arith in
        let minus : literal (l / 2) false ≡ l = omega arith in
        false_from_ne_true (is_true entries (l - 1)) (λ n. false≢true (sym (not-both entries (l / 2) d (ap (λ (x : ℕ). is_true entries x) plus ∙ n)) ∙ (ap (λ (x : ℕ). is_true entries x) minus ∙ t)))
