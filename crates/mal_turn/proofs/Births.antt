-- Which numbers have not entered yet.
use Rattle.std.proofs.Common.{◌≡◌, ℕ, ◌+◌, ◌≤◌, Bool, true, false, ◌||◌, List, [], ◌∷◌, ◌++◌, length, refl, sym, ap, ◌∙◌, subst, ⊎_elim, append_assoc, arith, length-append, le_refl}
use Rattle.mal_turn.specs.declared.view.Numbers.{Numbers}
use Rattle.mal_turn.specs.Numbers.{same, among, part}
use Rattle.mal_turn.specs.Rule.{Log, At, IsUnborn, child, next_number, splitting}
use Rattle.mal_turn.proofs.Paths.{part_none, same_equal}
use Rattle.mal_turn.proofs.Records.{at_end}

module _ {E : Type 0} where
  -- none after an entry by the token's own first number
  pub unborn_longer : (n : Numbers) (log : Log E) (x : E) → IsUnborn n log → IsUnborn n (log ++ (n.first, x) ∷ [])
  unborn_longer n log x none i rest k e late p is = ⊎_elim (λ (q : At log k e). none i rest k e late q is)
      (λ (t : (k ≡ length log) × ((n.first, x) ≡ e)).
      let long : length n.first ≡ length (n.first ++ i ∷ rest) = ap length (ap (λ (d : List ℕ × E). d.0) t.1 ∙ is) in
      absurd (omega (arith, long, length-append n.first (i ∷ rest)))) (at_end log (n.first, x) e k p)

  -- none after a split, by either of the two
  pub unborn_left : (n : Numbers) (log : Log E) → IsUnborn n log → IsUnborn (splitting n) log
  unborn_left n log none i rest k e late p is = none i rest k e (omega (arith, late)) p is

  pub unborn_right : (n : Numbers) (log : Log E) → IsUnborn n log → IsUnborn (child n) log
  unborn_right n log none i rest k e late p is = none n.count (i ∷ rest) k e (le_refl n.count) p (is ∙ append_assoc n.first (n.count ∷ []) (i ∷ rest))

  -- so none by the new one
  pub none_by_new : (n : Numbers) (log : Log E) → IsUnborn n log → part (child n).all log ≡ []
  none_by_new n log none = part_none (next_number n ∷ []) log (λ k e p. by_test e k p (same e.0 (next_number n)) refl)
    where
      by_test : (e : List ℕ × E) (k : ℕ) → At log k e → (b : Bool) → same e.0 (next_number n) ≡ b → (b || false) ≡ false
      by_test e k p true is = absurd (none n.count [] k e (le_refl n.count) p (same_equal e.0 (next_number n) is))
      by_test e k p false is = refl
