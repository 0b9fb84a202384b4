use Rattle.std.proofs.Common.{◌≡◌, ℕ, zero, suc, ◌/◌, get_or, ◌<◌, ◌≤◌, ◌⊎◌, inl, inr, Bool, true, false, ◌||◌, eqb, List, [], ◌∷◌, length, refl, sym, arith}
use Rattle.std.specs.Prelude.{Contains}
use Rattle.std.specs.List.{list_any, AllByRecursion, IsDistinct}
use Rattle.std.proofs.lemmas.Bool.{false≢true, eqb-true, eq-eqb}
use Rattle.std.proofs.lemmas.Map.Steps.{length-le_from_distinct_below}
use Rattle.mal_base.specs.Clauses.{rises}
use Rattle.mal_base.proofs.Sorting.{over-first, rises-tail}
use Rattle.mal_watch.specs.WatchLists.{Has, AreOnce}

or-cases : (a b : Bool) → (a || b) ≡ true → (a ≡ true) ⊎ (b ≡ true)
or-cases true b h = inl refl
or-cases false b h = inr h

or-right : (a b : Bool) → b ≡ true → (a || b) ≡ true
or-right true b h = refl
or-right false b h = h

or-left : (a b : Bool) → a ≡ true → (a || b) ≡ true
or-left true b h = refl
or-left false b h = absurd (false≢true h)

pub has-none : (k : ℕ) → Has [] k → ⊥
has-none k h = false≢true h

pub has-head : (k x : ℕ) (xs : List ℕ) → k ≡ x → Has (x ∷ xs) k
has-head k x xs e = or-left (eqb k x) (list_any (eqb k) xs) (eq-eqb k x e)

pub has-tail : (k x : ℕ) (xs : List ℕ) → Has xs k → Has (x ∷ xs) k
has-tail k x xs h = or-right (eqb k x) (list_any (eqb k) xs) h

pub has-cases : (k x : ℕ) (xs : List ℕ) → Has (x ∷ xs) k → (k ≡ x) ⊎ Has xs k
has-cases k x xs h = by_side (or-cases (eqb k x) (list_any (eqb k) xs) h)
  where
    by_side : (eqb k x ≡ true) ⊎ Has xs k → (k ≡ x) ⊎ Has xs k
    by_side (inl e) = inl (eqb-true k x e)
    by_side (inr r) = inr r

-- a number of a list that begins with another stands after it
pub has-other : (k x : ℕ) (xs : List ℕ) → (k ≡ x → ⊥) → Has (x ∷ xs) k → Has xs k
has-other k x xs n h = by_side (has-cases k x xs h)
  where
    by_side : (k ≡ x) ⊎ Has xs k → Has xs k
    by_side (inl e) = absurd (n e)
    by_side (inr r) = r

apart-from : (k : ℕ) (xs : List ℕ) → (Has xs k → ⊥) → AllByRecursion (λ y. eqb k y ≡ false) xs
apart-from k [] h = tt
apart-from k (x ∷ xs) h = (by_test (eqb k x) refl, apart-from k xs (λ m. h (has-tail k x xs m)))
  where
    by_test : (b : Bool) → eqb k x ≡ b → eqb k x ≡ false
    by_test true e = absurd (h (has-head k x xs (eqb-true k x e)))
    by_test false e = e

pub distinct-from : (xs : List ℕ) → AreOnce xs → IsDistinct eqb xs
unfolding IsDistinct
distinct-from [] h = tt
distinct-from (x ∷ xs) h = (apart-from x xs h.0, distinct-from xs h.1)

-- numbers below one, each once, are at most so many
pub long-below : (n : ℕ) (xs : List ℕ) → AreOnce xs → ((k : ℕ) → Has xs k → k < n) → length xs ≤ n
long-below n xs o b = length-le_from_distinct_below xs n (distinct-from xs o) b

pub has-at : (xs : List ℕ) (i x d : ℕ) → i < length xs → x ≡ get_or xs i d → Has xs x
has-at [] i x d l e = absurd (omega arith)
has-at (y ∷ ys) zero x d l e = has-head x y ys e
has-at (y ∷ ys) (suc i) x d l e = has-tail x y ys (has-at ys i x d (omega arith) e)

pub has-contains : (xs : List ℕ) (x : ℕ) → Has xs x → Contains xs x
has-contains [] x h = absurd (has-none x h)
has-contains (y ∷ ys) x h = by_side (has-contains ys x) (has-cases x y ys h)
  where
    by_side : (Has ys x → Contains ys x) → (x ≡ y) ⊎ Has ys x → Contains (y ∷ ys) x
    by_side rest (inl e) = (0, omega arith, sym e)
    by_side rest (inr m) = let f = rest m in (suc f.0, omega (arith, f.1), f.2)

pub contains-has : (xs : List ℕ) (x : ℕ) → Contains xs x → Has xs x
contains-has xs x c = has-at xs c.0 x x c.1 (sym c.2)

-- literals whose variables rise stand once each
pub rises-once : (lits : List ℕ) → rises lits ≡ true → AreOnce lits
rises-once [] h = tt
rises-once (l ∷ ls) h = ((λ m. let less : l / 2 < l / 2 = over-first l ls l h (has-contains ls l m) in omega arith), rises-once ls (rises-tail l ls h))

-- the place at which a number stands
pub record IsPlaced (xs : List ℕ) (x : ℕ) : Type 0 where
  pub place : ℕ
  pub inside : place < length xs
  pub is : get_or xs place 0 ≡ x

pub has-place : (xs : List ℕ) (x : ℕ) → Has xs x → IsPlaced xs x
has-place [] x h = absurd (has-none x h)
has-place (y ∷ ys) x h = by_side (has-place ys x) (has-cases x y ys h)
  where
    by_side : (Has ys x → IsPlaced ys x) → (x ≡ y) ⊎ Has ys x → IsPlaced (y ∷ ys) x
    by_side rest (inl e) = record { place = 0; inside = omega arith; is = sym e }
    by_side rest (inr m) = let p = rest m in record { place = suc p.place; inside = omega (arith, p.inside); is = p.is }
