-- Membership by recursion on the list.
use Rattle.std.proofs.Common.{◌≡◌, zero, suc, List, [], ◌∷◌, ◌++◌, Contains, refl, inl, inr, ◌⊎◌, arith}
use Rattle.std.specs.Prelude.{All}
use Rattle.std.proofs.lemmas.List.Elements.{All-nil, All-cons, All-contains}
use Rattle.mal_base.specs.NumberedClause.{Line}
use Rattle.spec_proof.specs.Among.{Among}

pub among-from_contains : (xs : List Line) (x : Line) → Contains xs x → Among x xs
among-from_contains [] x (k, h, e) = absurd (omega arith)
among-from_contains (y ∷ ys) x (zero, h, e) = inl e
among-from_contains (y ∷ ys) x (suc k, h, e) = inr (among-from_contains ys x (k, omega arith, e))

later-contains : (y : Line) (ys : List Line) (x : Line) → Contains ys x → Contains (y ∷ ys) x
later-contains y ys x (k, h, e) = (suc k, omega arith, e)

pub contains-from_among : (xs : List Line) (x : Line) → Among x xs → Contains xs x
contains-from_among [] x h = absurd h
contains-from_among (y ∷ ys) x (inl e) = (0, omega arith, e)
contains-from_among (y ∷ ys) x (inr h) = later-contains y ys x (contains-from_among ys x h)

-- what holds of all lines holds of one of them, and the way back
pub of-all : (P : Line → Type 0) (xs : List Line) (x : Line) → All P xs → Among x xs → P x
of-all P xs x all h = All-contains P xs x all (contains-from_among xs x h)

pub all-from_among : (P : Line → Type 0) (xs : List Line) → ((x : Line) → Among x xs → P x) → All P xs
all-from_among P [] h = All-nil P
all-from_among P (y ∷ ys) h = All-cons P y ys (h y (inl refl)) (all-from_among P ys (λ x k. h x (inr k)))

-- among two lists, one after the other
pub among-append : (xs ys : List Line) (x : Line) → Among x (xs ++ ys) → Among x xs ⊎ Among x ys
among-append [] ys x h = inr h
among-append (y ∷ xs) ys x (inl e) = inl (inl e)
among-append (y ∷ xs) ys x (inr h) = by_rest (among-append xs ys x h)
  where
    by_rest : Among x xs ⊎ Among x ys → Among x (y ∷ xs) ⊎ Among x ys
    by_rest (inl k) = inl (inr k)
    by_rest (inr k) = inr k

pub among-left : (xs ys : List Line) (x : Line) → Among x xs → Among x (xs ++ ys)
among-left [] ys x h = absurd h
among-left (y ∷ xs) ys x (inl e) = inl e
among-left (y ∷ xs) ys x (inr h) = inr (among-left xs ys x h)

pub among-right : (xs ys : List Line) (x : Line) → Among x ys → Among x (xs ++ ys)
among-right [] ys x h = h
among-right (y ∷ xs) ys x h = inr (among-right xs ys x h)
