use Rattle.std.proofs.Common.{◌≡◌, ℕ, zero, suc, ◌+◌, ◌<◌, Bool, true, false, ◌&&◌, List, [], ◌∷◌, ◌++◌, length, take, drop, get_or, refl, ap, sym, arith}
use Rattle.std.proofs.lemmas.Bool.{false≢true}

-- what is left of a list from a place on begins with the element there
pub drop-at : {X : Type 0} (xs : List X) (i : ℕ) (x d : X) → i < length xs → x ≡ get_or xs i d → drop i xs ≡ x ∷ drop (i + 1) xs
drop-at {X} [] i x d l e = absurd (omega arith)
drop-at {X} (y ∷ ys) zero x d l e = rw e refl
drop-at {X} (y ∷ ys) (suc i) x d l e =
    let more : suc i + 1 ≡ suc (i + 1) = omega arith in
    rw more (drop-at ys i x d (omega arith) e)

-- and the front gets it as its last
pub take-at : {X : Type 0} (xs : List X) (i : ℕ) (x d : X) → i < length xs → x ≡ get_or xs i d → take (i + 1) xs ≡ take i xs ++ x ∷ []
take-at {X} [] i x d l e = absurd (omega arith)
take-at {X} (y ∷ ys) zero x d l e = rw e refl
take-at {X} (y ∷ ys) (suc i) x d l e =
    let more : suc i + 1 ≡ suc (i + 1) = omega arith in
    rw more (ap (λ (zs : List X). y ∷ zs) (take-at ys i x d (omega arith) e))

pub by_true : (a b : Bool) → a ≡ true → b ≡ (a && b)
by_true true b h = refl
by_true false b h = absurd (false≢true h)

pub by_false : (a b : Bool) → a ≡ false → (a && b) ≡ false
by_false true b h = absurd (false≢true (sym h))
by_false false b h = refl
