use Rattle.std.proofs.Common.{◌≡◌, ℕ, zero, suc, ◌/◌, ◌<◌, Bool, true, false, ◌==◌, nat_lt, List, [], ◌∷◌, ◌++◌, length, take, refl, ap, subst, inl, inr, ◌⊎◌, arith}
use Rattle.std.specs.Prelude.{get_or, remove}
use Rattle.std.specs.List.{list_all}
use Rattle.std.proofs.lemmas.Bool.{and_parts, and_from, or_cases, or_left, or_right, lt-ltb, eqb-true, ne_eqb}
use Rattle.mal_base.specs.Clauses.{rises, is_below}
use Rattle.spec_logic.specs.Logic.{is_true_in}
use Rattle.spec_core.proofs.RisingLemmas.{has, Inside, tail-rises, later, has-first, has-behind}

-- a member of a list
pub has-at : (xs : List ℕ) (i : ℕ) → i < length xs → has xs (get_or xs i 0) ≡ true
has-at [] i h = absurd (omega arith)
has-at (x ∷ xs) zero h = has-first x xs
has-at (x ∷ xs) (suc i) h = has-behind x (get_or xs i 0) xs (has-at xs i (omega arith))

-- the place of a member
pub place-of : (xs : List ℕ) (x : ℕ) → has xs x ≡ true → (i : ℕ) × (i < length xs) × (get_or xs i 0 ≡ x)
place-of [] x h = absurd (cc)
place-of (y ∷ ys) x h = by_place (or_cases (y == x) (has ys x) h) (λ e. place-of ys x e)
  where
    by_place : ((y == x) ≡ true) ⊎ (has ys x ≡ true) → (has ys x ≡ true → (i : ℕ) × (i < length ys) × (get_or ys i 0 ≡ x)) → (i : ℕ) × (i < length (y ∷ ys)) × (get_or (y ∷ ys) i 0 ≡ x)
    by_place (inl e) rest = (0, omega arith, eqb-true y x e)
    by_place (inr e) rest = let got = rest e in let low = got.1 in (suc got.0, omega arith, got.2)

-- without one, a list has what it had but for that one
pub removed-inside : (xs : List ℕ) (i : ℕ) → Inside (remove xs i) xs
removed-inside [] zero x h = absurd (cc)
removed-inside [] (suc i) x h = absurd (cc)
removed-inside (y ∷ ys) zero x h = has-behind y x ys h
removed-inside (y ∷ ys) (suc i) x h = by_place (or_cases (y == x) (has (remove ys i) x) h) (λ e. removed-inside ys i x e)
  where
    by_place : ((y == x) ≡ true) ⊎ (has (remove ys i) x ≡ true) → (has (remove ys i) x ≡ true → has ys x ≡ true) → has (y ∷ ys) x ≡ true
    by_place (inl e) rest = or_left (y == x) (has ys x) e
    by_place (inr e) rest = or_right (y == x) (has ys x) (rest e)

pub others-stay : (xs : List ℕ) (i x : ℕ) → has xs x ≡ true → (get_or xs i 0 == x) ≡ false → has (remove xs i) x ≡ true
others-stay [] i x h d = absurd (cc)
others-stay (y ∷ ys) zero x h d = by_place (or_cases (y == x) (has ys x) h)
  where
    by_place : ((y == x) ≡ true) ⊎ (has ys x ≡ true) → has ys x ≡ true
    by_place (inl e) = absurd (cc)
    by_place (inr e) = e
others-stay (y ∷ ys) (suc i) x h d = by_place (or_cases (y == x) (has ys x) h) (λ e. others-stay ys i x e d)
  where
    by_place : ((y == x) ≡ true) ⊎ (has ys x ≡ true) → (has ys x ≡ true → has (remove ys i) x ≡ true) → has (y ∷ remove ys i) x ≡ true
    by_place (inl e) rest = or_left (y == x) (has (remove ys i) x) e
    by_place (inr e) rest = or_right (y == x) (has (remove ys i) x) (rest e)

-- the one that is left out of a rising list is no more in it
pub left-out : (xs : List ℕ) (i x : ℕ) → rises xs ≡ true → i < length xs → has (remove xs i) x ≡ true → (get_or xs i 0 == x) ≡ false
left-out [] i x r low h = absurd (omega arith)
left-out (y ∷ ys) zero x r low h = let less = later y ys x r h in ne_eqb y x (λ e. let same : y / 2 ≡ x / 2 = ap (λ (n : ℕ). n / 2) e in omega arith)
left-out (y ∷ ys) (suc i) x r low h = by_place (or_cases (y == x) (has (remove ys i) x) h) (λ e. left-out ys i x (tail-rises y ys r) (omega arith) e)
  where
    by_place : ((y == x) ≡ true) ⊎ (has (remove ys i) x ≡ true) → (has (remove ys i) x ≡ true → (get_or ys i 0 == x) ≡ false) → (get_or ys i 0 == x) ≡ false
    by_place (inl e) rest =
        let less = later y ys (get_or ys i 0) r (has-at ys i (omega arith)) in
        let same : y / 2 ≡ x / 2 = ap (λ (n : ℕ). n / 2) (eqb-true y x e) in
        ne_eqb (get_or ys i 0) x (λ q. let other : get_or ys i 0 / 2 ≡ x / 2 = ap (λ (n : ℕ). n / 2) q in omega arith)
    by_place (inr e) rest = rest e

-- without one, a list rises
pub removed-rises : (xs : List ℕ) (i : ℕ) → rises xs ≡ true → rises (remove xs i) ≡ true
removed-rises [] zero r = refl
removed-rises [] (suc i) r = refl
removed-rises (y ∷ ys) zero r = tail-rises y ys r
removed-rises (y ∷ ys) (suc i) r = and_from (is_below y (remove ys i)) (rises (remove ys i)) (below y ys i r) (removed-rises ys i (tail-rises y ys r))
  where
    below : (y : ℕ) (ys : List ℕ) (i : ℕ) → rises (y ∷ ys) ≡ true → is_below y (remove ys i) ≡ true
    below y [] zero r = refl
    below y [] (suc i) r = refl
    below y (z ∷ []) zero r = refl
    below y (z ∷ w ∷ ws) zero r =
        let less = later y (z ∷ w ∷ ws) w r (has-behind z w (w ∷ ws) (has-first w ws)) in
        lt-ltb (y / 2) (w / 2) less
    below y (z ∷ zs) (suc i) r = (and_parts (nat_lt (y / 2) (z / 2)) (rises (z ∷ zs)) r).0

-- what holds of all of a list holds of what is inside it
all-at : (p : ℕ → Bool) (xs : List ℕ) (x : ℕ) → list_all p xs ≡ true → has xs x ≡ true → p x ≡ true
all-at p [] x h t = absurd (cc)
all-at p (y ∷ ys) x h t = by_place (or_cases (y == x) (has ys x) t) (λ e. all-at p ys x both.1 e)
  where
    both : (p y ≡ true) × (list_all p ys ≡ true)
    both = and_parts (p y) (list_all p ys) h

    by_place : ((y == x) ≡ true) ⊎ (has ys x ≡ true) → (has ys x ≡ true → p x ≡ true) → p x ≡ true
    by_place (inl e) rest = subst (λ (n : ℕ). p n ≡ true) (eqb-true y x e) both.0
    by_place (inr e) rest = rest e

pub all-inside : (p : ℕ → Bool) (xs ys : List ℕ) → Inside xs ys → list_all p ys ≡ true → list_all p xs ≡ true
all-inside p [] ys s h = refl
all-inside p (x ∷ xs) ys s h = and_from (p x) (list_all p xs) (all-at p ys x h (s x (has-first x xs))) (all-inside p xs ys (λ y e. s y (has-behind x y xs e)) h)

-- with the one that was left out, all are true
pub true-with : (m : List Bool) (xs : List ℕ) (i : ℕ) → list_all (is_true_in m) (remove xs i) ≡ true → is_true_in m (get_or xs i 0) ≡ true → list_all (is_true_in m) xs ≡ true
true-with m [] i h t = refl
true-with m (x ∷ xs) zero h t = and_from (is_true_in m x) (list_all (is_true_in m) xs) t h
true-with m (x ∷ xs) (suc i) h t =
    let both = and_parts (is_true_in m x) (list_all (is_true_in m) (remove xs i)) h in
    and_from (is_true_in m x) (list_all (is_true_in m) xs) both.0 (true-with m xs i both.1 t)

-- the first of a list are inside what has each of them
pub first-inside : (k : ℕ) (xs ys : List ℕ) → ((i : ℕ) → i < k → i < length xs → has ys (get_or xs i 0) ≡ true) → Inside (take k xs) ys
first-inside zero xs ys h x e = absurd (cc)
first-inside (suc k) [] ys h x e = absurd (cc)
first-inside (suc k) (z ∷ zs) ys h x e = by_place (or_cases (z == x) (has (take k zs) x) e) (h 0 (omega arith) (omega arith)) (first-inside k zs ys (λ i low few. h (suc i) (omega arith) (omega arith)) x)
  where
    by_place : ((z == x) ≡ true) ⊎ (has (take k zs) x ≡ true) → has ys z ≡ true → (has (take k zs) x ≡ true → has ys x ≡ true) → has ys x ≡ true
    by_place (inl q) here rest = subst (λ (n : ℕ). has ys n ≡ true) (eqb-true z x q) here
    by_place (inr q) here rest = rest q
