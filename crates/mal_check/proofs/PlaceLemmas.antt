use Rattle.std.proofs.Common.{◌≡◌, ℕ, zero, suc, ◌<◌, ◌≤◌, ◌+◌, ◌*◌, max, Bool, true, false, cond, eqb, List, [], ◌∷◌, ◌++◌, slice_get, length, Option, Some, None, refl, sym, ap, ◌∙◌, subst, inl, inr, ◌⊎◌, arith}
use Rattle.std.specs.Option.{option_and_then}
use Rattle.std.specs.BTreeMap.{is_at}
use Rattle.std.specs.Ordering.{nat_cmp, is_eq}
use Rattle.std.specs.declared.cmp.Ordering.TheVariants.{Less, Equal, Greater}
use Rattle.std.specs.Cmp.{nat_cmp_is}
use Rattle.std.proofs.Math.Path.{fun_ext}
use Rattle.std.proofs.lemmas.List.{length_push}
use Rattle.std.proofs.lemmas.Bool.{cases_order, eq-eqb, ne_eqb}
use Rattle.spec_logic.specs.Refutation.{with_clause}
use Rattle.mal_check.specs.declared.held.Place.{Place}
use Rattle.mal_check.specs.declared.held.Place.TheVariants.{Original, Added}
use Rattle.mal_check.specs.Places.{Placed, clause_at, IsPlace, IsShort, place_in, HavePlaces}
use Rattle.mal_check.specs.Checked.{held}

-- the test of a map is that of two equal numbers
pub at-is : (id q : ℕ) → is_at (nat_cmp id) q ≡ eqb q id
at-is id q = by_order (cases_order id q)
  where
    by_order : (id ≡ q) ⊎ ((id < q) ⊎ (q < id)) → is_at (nat_cmp id) q ≡ eqb q id
    by_order (inl e) = ap is_eq (sym (nat_cmp_is id q Equal e)) ∙ sym (eq-eqb q id (sym e))
    by_order (inr (inl l)) = ap is_eq (sym (nat_cmp_is id q Less l)) ∙ sym (ne_eqb q id (λ e. omega arith))
    by_order (inr (inr g)) = ap is_eq (sym (nat_cmp_is id q Greater g)) ∙ sym (ne_eqb q id (λ e. omega arith))

-- an element in a list and one at its end
pub get-front : {A : Type 0} (xs ys : List A) (n : ℕ) → n < length xs → slice_get (xs ++ ys) n ≡ slice_get xs n
get-front [] ys n low = absurd (omega arith)
get-front (x ∷ xs) ys zero low = refl
get-front (x ∷ xs) ys (suc n) low = get-front xs ys n (omega arith)

pub get-last : {A : Type 0} (xs : List A) (y : A) → slice_get (xs ++ y ∷ []) (length xs) ≡ Some y
get-last [] y = refl
get-last (x ∷ xs) y = get-last xs y

-- what a map has after an entry was put
abbrev pub Puts : Placed → Placed → ℕ → Place → Type 0
Puts old new id place = (q : ℕ) → place_in new q ≡ cond (eqb q id) (Some place) (place_in old q)

-- a clause more leaves the places
place-original : (originals added : List (Option (List ℕ))) (c : Option (List ℕ)) (p : Place) → IsPlace originals added p → IsPlace (originals ++ c ∷ []) added p
place-original originals added c (Original n) h = omega (arith, length_push originals c)
place-original originals added c (Added n) h = h

place-added : (originals added : List (Option (List ℕ))) (c : Option (List ℕ)) (p : Place) → IsPlace originals added p → IsPlace originals (added ++ c ∷ []) p
place-added originals added c (Original n) h = h
place-added originals added c (Added n) h = omega (arith, length_push added c)

at-original : (originals added : List (Option (List ℕ))) (c : Option (List ℕ)) (p : Place) → IsPlace originals added p → clause_at (originals ++ c ∷ []) added p ≡ clause_at originals added p
at-original originals added c (Original n) h = get-front originals (c ∷ []) n h
at-original originals added c (Added n) h = refl

at-added : (originals added : List (Option (List ℕ))) (c : Option (List ℕ)) (p : Place) → IsPlace originals added p → clause_at originals (added ++ c ∷ []) p ≡ clause_at originals added p
at-added originals added c (Original n) h = refl
at-added originals added c (Added n) h = get-front added (c ∷ []) n h

-- after an entry of a place with a clause each id has a place with a clause
have-put : (originals added originals' added' : List (Option (List ℕ))) (old new : Placed) (id : ℕ) (place : Place) → HavePlaces originals added old → ((p : Place) → IsPlace originals added p → IsPlace originals' added' p) → IsPlace originals' added' place → Puts old new id place → HavePlaces originals' added' new
have-put originals added originals' added' old new id place h wider here put q p e = by_id (eqb q id) (sym (put q) ∙ e)
  where
    by_id : (b : Bool) → cond b (Some place) (place_in old q) ≡ Some p → IsPlace originals' added' p
    by_id true k = let same : place ≡ p = cc in subst (IsPlace originals' added') same here
    by_id false k = wider p (h q p k)

pub have-original : (originals added : List (Option (List ℕ))) (c : Option (List ℕ)) (old new : Placed) (id : ℕ) → HavePlaces originals added old → Puts old new id (Original (length originals)) → HavePlaces (originals ++ c ∷ []) added new
have-original originals added c old new id h put = have-put originals added (originals ++ c ∷ []) added old new id (Original (length originals)) h (place-original originals added c) (omega (arith, length_push originals c)) put

pub have-added : (originals added : List (Option (List ℕ))) (c : Option (List ℕ)) (old new : Placed) (id : ℕ) → HavePlaces originals added old → Puts old new id (Added (length added)) → HavePlaces originals (added ++ c ∷ []) new
have-added originals added c old new id h put = have-put originals added originals (added ++ c ∷ []) old new id (Added (length added)) h (place-added originals added c) (omega (arith, length_push added c)) put

-- and the clause is held under its id
held-put : (originals added originals' added' : List (Option (List ℕ))) (c : Option (List ℕ)) (old new : Placed) (id : ℕ) (place : Place) → HavePlaces originals added old → ((p : Place) → IsPlace originals added p → clause_at originals' added' p ≡ clause_at originals added p) → clause_at originals' added' place ≡ Some c → Puts old new id place → (q : ℕ) → option_and_then (clause_at originals' added') (place_in new q) ≡ cond (eqb q id) (Some c) (option_and_then (clause_at originals added) (place_in old q))
held-put originals added originals' added' c old new id place h same here put q = ap (option_and_then (clause_at originals' added')) (put q) ∙ by_id (eqb q id)
  where
    by_place : (o : Option Place) → ((p : Place) → o ≡ Some p → IsPlace originals added p) → option_and_then (clause_at originals' added') o ≡ option_and_then (clause_at originals added) o
    by_place None k = refl
    by_place (Some p) k = same p (k p refl)

    by_id : (b : Bool) → option_and_then (clause_at originals' added') (cond b (Some place) (place_in old q)) ≡ cond b (Some c) (option_and_then (clause_at originals added) (place_in old q))
    by_id true = here
    by_id false = by_place (place_in old q) (h q)

pub held-original : (originals added : List (Option (List ℕ))) (c : Option (List ℕ)) (old new : Placed) (id : ℕ) → HavePlaces originals added old → Puts old new id (Original (length originals)) → held (record { originals = originals ++ c ∷ []; added = added; ids = new }) ≡ with_clause (held (record { originals = originals; added = added; ids = old })) id c
held-original originals added c old new id h put = fun_ext (held-put originals added (originals ++ c ∷ []) added c old new id (Original (length originals)) h (at-original originals added c) (get-last originals c) put)

pub held-added : (originals added : List (Option (List ℕ))) (c : Option (List ℕ)) (old new : Placed) (id : ℕ) → HavePlaces originals added old → Puts old new id (Added (length added)) → held (record { originals = originals; added = added ++ c ∷ []; ids = new }) ≡ with_clause (held (record { originals = originals; added = added; ids = old })) id c
held-added originals added c old new id h put = fun_ext (held-put originals added originals (added ++ c ∷ []) c old new id (Added (length added)) h (at-added originals added c) (get-last added c) put)

-- the list by number goes by the clauses
pub short-original : (originals added : List (Option (List ℕ))) (c : Option (List ℕ)) (old new : Placed) (bound : ℕ) → IsShort originals added old → bound ≤ 2 * (length originals + length added) + 64 → length new.dense ≤ max (length old.dense) bound → IsShort (originals ++ c ∷ []) added new
short-original originals added c old new bound h low put = omega (arith, length_push originals c)

pub short-added : (originals added : List (Option (List ℕ))) (c : Option (List ℕ)) (old new : Placed) (bound : ℕ) → IsShort originals added old → bound ≤ 2 * (length originals + length added) + 64 → length new.dense ≤ max (length old.dense) bound → IsShort originals (added ++ c ∷ []) new
short-added originals added c old new bound h low put = omega (arith, length_push added c)

-- the same with the place as a call computed it
pub puts-at : (old new : Placed) (id : ℕ) (p q : Place) → p ≡ q → Puts old new id p → Puts old new id q
puts-at old new id p q f put = subst (λ (x : Place). Puts old new id x) f put
