-- What filters keep.
use Rattle.std.proofs.Common.{◌≡◌, ◌≤◌, Bool, true, false, cond, ◌||◌, List, [], ◌∷◌, ◌++◌, length, filter, map, refl, sym, ap, ap₂, subst, ◌∙◌, arith, append-nil, length-append}
use Rattle.std.specs.List.{list_any}
use Rattle.std.proofs.lemmas.List.Elements.{filter-append}
use Rattle.spec_feed.proofs.Lists.{neither}

pub filter-yes : {A : Type 0} (p : A → Bool) (x : A) (xs : List A) → p x ≡ true → filter p (x ∷ xs) ≡ x ∷ filter p xs
filter-yes {A} p x xs e = ap (λ (b : Bool). cond b (x ∷ filter p xs) (filter p xs)) e

pub filter-not : {A : Type 0} (p : A → Bool) (x : A) (xs : List A) → p x ≡ false → filter p (x ∷ xs) ≡ filter p xs
filter-not {A} p x xs e = ap (λ (b : Bool). cond b (x ∷ filter p xs) (filter p xs)) e

-- one more at the end
pub filter-last : {A : Type 0} (p : A → Bool) (xs : List A) (x : A) → p x ≡ true → filter p (xs ++ x ∷ []) ≡ filter p xs ++ x ∷ []
filter-last {A} p xs x e = filter-append p xs (x ∷ []) ∙ ap (λ (ys : List A). filter p xs ++ ys) (filter-yes p x [] e)

pub filter-no_last : {A : Type 0} (p : A → Bool) (xs : List A) (x : A) → p x ≡ false → filter p (xs ++ x ∷ []) ≡ filter p xs
filter-no_last {A} p xs x e = filter-append p xs (x ∷ []) ∙ ap (λ (ys : List A). filter p xs ++ ys) (filter-not p x [] e) ∙ append-nil (filter p xs)

pub none-kept : {A : Type 0} (p : A → Bool) (xs : List A) → list_any p xs ≡ false → filter p xs ≡ []
none-kept p [] e = refl
none-kept p (x ∷ xs) e = let h = neither (p x) (list_any p xs) e in filter-not p x xs h.0 ∙ none-kept p xs h.1

pub none-any : {A : Type 0} (p : A → Bool) (xs : List A) → filter p xs ≡ [] → list_any p xs ≡ false
none-any p [] e = refl
none-any {A} p (x ∷ xs) e = by_test (λ h. none-any p xs h) (p x) refl e
  where
    by_test : (filter p xs ≡ [] → list_any p xs ≡ false) → (b : Bool) → p x ≡ b → cond b (x ∷ filter p xs) (filter p xs) ≡ [] → (p x || list_any p xs) ≡ false
    by_test ih true q h = absurd (cc)
    by_test ih false q h = ap (λ (b : Bool). b || list_any p xs) q ∙ ih h

pub some-any : {A : Type 0} (p : A → Bool) (xs : List A) (y : A) (ys : List A) → filter p xs ≡ y ∷ ys → list_any p xs ≡ true
some-any p [] y ys e = absurd (cc)
some-any {A} p (x ∷ xs) y ys e = by_test (λ h. some-any p xs y ys h) (p x) refl e
  where
    by_test : (filter p xs ≡ y ∷ ys → list_any p xs ≡ true) → (b : Bool) → p x ≡ b → cond b (x ∷ filter p xs) (filter p xs) ≡ y ∷ ys → (p x || list_any p xs) ≡ true
    by_test ih true q h = ap (λ (b : Bool). b || list_any p xs) q
    by_test ih false q h = ap (λ (b : Bool). b || list_any p xs) q ∙ ih h

pub filter-map : {A B : Type 0} (p : B → Bool) (f : A → B) (xs : List A) → filter p (map f xs) ≡ map f (filter (λ x. p (f x)) xs)
filter-map p f [] = refl
filter-map {A} {B} p f (x ∷ xs) = by_test (filter-map p f xs) (p (f x))
  where
    by_test : filter p (map f xs) ≡ map f (filter (λ x. p (f x)) xs) → (b : Bool) → cond b (f x ∷ filter p (map f xs)) (filter p (map f xs)) ≡ map f (cond b (x ∷ filter (λ x. p (f x)) xs) (filter (λ x. p (f x)) xs))
    by_test ih true = ap (λ (ys : List B). f x ∷ ys) ih
    by_test ih false = ih

pub filter-turn : {A : Type 0} (p q : A → Bool) (xs : List A) → filter p (filter q xs) ≡ filter q (filter p xs)
filter-turn p q [] = refl
filter-turn {A} p q (x ∷ xs) = by_test (filter-turn p q xs) (p x) refl (q x) refl
  where
    by_test : filter p (filter q xs) ≡ filter q (filter p xs) → (a : Bool) → p x ≡ a → (b : Bool) → q x ≡ b → filter p (cond b (x ∷ filter q xs) (filter q xs)) ≡ filter q (cond a (x ∷ filter p xs) (filter p xs))
    by_test ih true e true f = filter-yes p x (filter q xs) e ∙ ap (λ (ys : List A). x ∷ ys) ih ∙ sym (filter-yes q x (filter p xs) f)
    by_test ih true e false f = ih ∙ sym (filter-not q x (filter p xs) f)
    by_test ih false e true f = filter-not p x (filter q xs) e ∙ ih
    by_test ih false e false f = ih

pub not-none : {A : Type 0} (xs : List A) (x : A) (ys : List A) → xs ++ x ∷ ys ≡ [] → ⊥
not-none [] x ys e = absurd (cc)
not-none (z ∷ xs) x ys e = absurd (cc)

-- the last one is the only one
pub record Alone {A : Type 0} (xs : List A) (x y : A) : Type 0 where
  pub none : xs ≡ []
  pub same : x ≡ y

pub alone : {A : Type 0} (xs : List A) (x y : A) → xs ++ x ∷ [] ≡ y ∷ [] → Alone xs x y
alone [] x y e = record { none = refl; same = cc }
alone {A} (z ∷ xs) x y e = let rest : xs ++ x ∷ [] ≡ [] = cc in absurd (not-none xs x [] rest)

both-none : {A : Type 0} (xs : List A) (x : A) (ys : List A) → length (xs ++ x ∷ ys) ≤ 1 → (xs ≡ []) × (ys ≡ [])
both-none [] x [] low = (refl, refl)
both-none [] x (y ∷ ys) low = absurd (omega arith)
both-none (z ∷ xs) x ys low = absurd (omega (arith, length-append xs (x ∷ ys)))

-- one that goes to the end, where at most one is kept
pub rotated : {A : Type 0} (p : A → Bool) (front : List A) (x : A) (rest : List A) → length (filter p (front ++ x ∷ rest)) ≤ 1 → filter p ((front ++ rest) ++ x ∷ []) ≡ filter p (front ++ x ∷ rest)
rotated {A} p front x rest low = by_test (p x) refl
  where
    by_test : (b : Bool) → p x ≡ b → filter p ((front ++ rest) ++ x ∷ []) ≡ filter p (front ++ x ∷ rest)
    by_test false e = filter-no_last p (front ++ rest) x e ∙ filter-append p front rest ∙ sym (filter-append p front (x ∷ rest) ∙ ap (λ (ys : List A). filter p front ++ ys) (filter-not p x rest e))
    by_test true e =
        let kept : filter p (front ++ x ∷ rest) ≡ filter p front ++ x ∷ filter p rest = filter-append p front (x ∷ rest) ∙ ap (λ (ys : List A). filter p front ++ ys) (filter-yes p x rest e) in
        let none = both-none (filter p front) x (filter p rest) (subst (λ (ys : List A). length ys ≤ 1) kept low) in
        filter-last p (front ++ rest) x e
        ∙ ap (λ (ys : List A). ys ++ x ∷ []) (filter-append p front rest)
        ∙ ap₂ (λ (ys zs : List A). (ys ++ zs) ++ x ∷ []) none.0 none.1
        ∙ sym (kept ∙ ap₂ (λ (ys zs : List A). ys ++ x ∷ zs) none.0 none.1)
