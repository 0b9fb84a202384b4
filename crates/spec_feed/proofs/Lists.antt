-- Facts about lists that reading a feed rests on.
use Rattle.std.proofs.Common.{◌≡◌, ℕ, suc, ◌+◌, Bool, true, false, cond, not, ◌||◌, List, [], ◌∷◌, ◌++◌, length, Option, Some, None, Result, Ok, Err, refl, sym, ap, ◌∙◌, arith}
use Rattle.std.specs.List.{AllByRecursion, list_any, slice_get, position_or_len, remove}
use Rattle.std.proofs.lemmas.Option.{slice_get_past}
use Rattle.spec_dimacs.specs.Reading.{◌>>=◌}

-- what stands after a list is got at its length
pub last-got : {A : Type 0} (xs : List A) (x : A) (rest : List A) → slice_get (xs ++ x ∷ rest) (length xs) ≡ Some x
last-got [] x rest = refl
last-got (y ∷ xs) x rest = last-got xs x rest

pub none-got : {A : Type 0} (xs : List A) → slice_get xs (length xs) ≡ None
none-got xs = slice_get_past xs (length xs) (omega arith)

-- without what stands after a list
pub remove-at : {A : Type 0} (front : List A) (x : A) (rest : List A) → remove (front ++ x ∷ rest) (length front) ≡ front ++ rest
remove-at [] x rest = refl
remove-at (y ∷ front) x rest = ap (λ xs. y ∷ xs) (remove-at front x rest)

pub neither : (a b : Bool) → (a || b) ≡ false → (a ≡ false) × (b ≡ false)
neither true b e = absurd (cc)
neither false b e = (refl, e)

-- the first that passes stands after those that do not
pub found-at : {A : Type 0} (p : A → Bool) (front : List A) (x : A) (rest : List A) → p x ≡ true → list_any p front ≡ false → position_or_len p (front ++ x ∷ rest) ≡ length front
found-at p [] x rest own first = ap (λ (b : Bool). cond (not b) (1 + position_or_len p rest) 0) own
found-at p (y ∷ front) x rest own first =
    let h = neither (p y) (list_any p front) first in
    let ih : position_or_len p (front ++ x ∷ rest) ≡ length front = found-at p front x rest own h.1 in
    ap (λ (b : Bool). cond (not b) (1 + position_or_len p (front ++ x ∷ rest)) 0) h.0 ∙ omega arith

-- the first that passes, among others
pub record FoundIn {A : Type 0} (p : A → Bool) (xs : List A) (x : A) : Type 0 where
  pub front : List A
  pub rest : List A
  pub all : xs ≡ front ++ x ∷ rest
  pub own : p x ≡ true
  pub first : list_any p front ≡ false

some-is : {A : Type 0} (x y : A) → ◌≡◌ {A = Option A} (Some x) (Some y) → x ≡ y
some-is x y e = cc

pub looked-up : {A : Type 0} (p : A → Bool) (xs : List A) (x : A) → slice_get xs (position_or_len p xs) ≡ Some x → FoundIn p xs x
looked-up p [] x e = absurd (cc)
looked-up {A} p (y ∷ xs) x e = by_test (λ h. looked-up p xs x h) (p y) refl e
  where
    more : FoundIn p xs x → p y ≡ false → FoundIn p (y ∷ xs) x
    more f q = record { front = y ∷ f.front; rest = f.rest; all = ap (λ (zs : List A). y ∷ zs) f.all; own = f.own; first = ap (λ (b : Bool). b || list_any p f.front) q ∙ f.first }

    by_test : (slice_get xs (position_or_len p xs) ≡ Some x → FoundIn p xs x) → (b : Bool) → p y ≡ b → slice_get (y ∷ xs) (cond (not b) (1 + position_or_len p xs) 0) ≡ Some x → FoundIn p (y ∷ xs) x
    by_test ih true q h = let same : y ≡ x = some-is y x h in record { front = []; rest = xs; all = ap (λ (z : A). z ∷ xs) same; own = ap p (sym same) ∙ q; first = refl }
    by_test ih false q h =
        let next : 1 + position_or_len p xs ≡ suc (position_or_len p xs) = omega arith in
        more (ih (sym (ap (λ (n : ℕ). slice_get (y ∷ xs) n) next) ∙ h)) q

pub all-append : {A : Type 0} (P : A → Type 0) (xs ys : List A) → AllByRecursion P xs → AllByRecursion P ys → AllByRecursion P (xs ++ ys)
all-append P [] ys h k = k
all-append P (x ∷ xs) ys h k = (h.0, all-append P xs ys h.1 k)

pub all-split : {A : Type 0} (P : A → Type 0) (xs ys : List A) → AllByRecursion P (xs ++ ys) → AllByRecursion P xs × AllByRecursion P ys
all-split P [] ys h = (tt, h)
all-split P (x ∷ xs) ys h = let k = all-split P xs ys h.1 in ((h.0, k.0), k.1)

pub bind-same : {A E : Type 0} (r : Result A E) → (r >>= λ x. Ok x) ≡ r
bind-same (Ok x) = refl
bind-same (Err d) = refl
