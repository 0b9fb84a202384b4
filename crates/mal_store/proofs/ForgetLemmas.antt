use Rattle.std.proofs.Common.{◌≡◌, ℕ, Bool, true, false, cond, not, List, [], ◌∷◌, refl, sym, ap}
use Rattle.std.specs.Prelude.{◌==◌}
use Rattle.std.specs.List.Sorted.{IsPermutation}
use Rattle.std.proofs.lemmas.Bool.{false≢true}
use Rattle.std.proofs.lemmas.List.Sorted.{list_any-IsPermutation}
use Rattle.mal_base.specs.NumberedClause.{NumberedClause}
use Rattle.spec_node.specs.Adding.{forgetting}
use Rattle.mal_store.specs.Arena.{is_left}

-- what is given up does not depend on the order of the numbers
pub forgetting-order : (ids now : List ℕ) → IsPermutation ids now → (cs : List NumberedClause) → forgetting ids cs ≡ forgetting now cs
forgetting-order ids now p [] = refl
forgetting-order ids now p (c ∷ cs) = by_test (forgetting-order ids now p cs) (is_left ids c) (is_left now c) (ap not (list_any-IsPermutation (λ (i : ℕ). i == c.id) ids now p))
  where
    by_test : forgetting ids cs ≡ forgetting now cs → (a b : Bool) → a ≡ b → cond a (c ∷ forgetting ids cs) (forgetting ids cs) ≡ cond b (c ∷ forgetting now cs) (forgetting now cs)
    by_test f true true e = ap (λ (ds : List NumberedClause). c ∷ ds) f
    by_test f false false e = f
    by_test f true false e = absurd (false≢true (sym e))
    by_test f false true e = absurd (false≢true e)
