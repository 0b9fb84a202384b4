use Rattle.std.proofs.Common.{◌≡◌, ℕ, ◌+◌, ◌<◌, Bool, true, List, [], ◌∷◌, length, drop, get_or, refl, sym, ◌∙◌}
use Rattle.std.specs.Prelude.{◌==◌}
use Rattle.std.specs.List.{list_any, list_all}
use Rattle.std.specs.List.Sorted.{IsPermutation}
use Rattle.std.proofs.lemmas.List.{drop_more}
use Rattle.std.proofs.lemmas.List.Sorted.{list_any-IsPermutation}
use Rattle.std.proofs.lemmas.Bool.{and_parts, and_from}
use Rattle.mal_base.specs.Literals.{var_of}
use Rattle.spec_learn.specs.Analysis.{vars_in}
use Rattle.spec_learn.specs.Order.{moved}
use Rattle.spec_learn.proofs.SoundParts.{moves-permute}

-- the variables of the literals that are left from a place on begin with that of the literal there
pub vars-drop : (lits : List ℕ) (i x d : ℕ) → i < length lits → x ≡ get_or lits i d → vars_in (drop i lits) ≡ var_of x ∷ vars_in (drop (i + 1) lits)
vars-drop lits i x d l e = rw (drop_more lits i d l, ← e) refl

abbrev pub are_in : List ℕ → List ℕ → Bool
are_in ws vs = list_all (λ v. list_any (λ w. w == v) ws) vs

pub are_in-head : (v : ℕ) (vs ws : List ℕ) → are_in ws (v ∷ vs) ≡ true → list_any (λ w. w == v) ws ≡ true
are_in-head v vs ws h = (and_parts (list_any (λ w. w == v) ws) (are_in ws vs) h).0

-- what is in a list is in it after a move to the front
pub are_in-moved : (v : ℕ) (vs ws : List ℕ) → are_in ws (v ∷ vs) ≡ true → are_in (moved v ws) vs ≡ true
are_in-moved v vs ws h =
    let parts = and_parts (list_any (λ w. w == v) ws) (are_in ws vs) h in
    let one : IsPermutation ws (moved v ws) = moves-permute (v ∷ []) ws (and_from _ _ parts.0 refl) in
    others vs one parts.1
  where
    others : (xs : List ℕ) → IsPermutation ws (moved v ws) → are_in ws xs ≡ true → are_in (moved v ws) xs ≡ true
    others [] one k = refl
    others (x ∷ xs) one k =
        let ps = and_parts (list_any (λ w. w == x) ws) (are_in ws xs) k in
        and_from _ _ (sym (list_any-IsPermutation (λ w. w == x) ws (moved v ws) one) ∙ ps.0) (others xs one ps.1)
