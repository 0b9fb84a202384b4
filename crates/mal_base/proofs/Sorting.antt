use Rattle.std.proofs.Common.{◌≡◌, ◌≢◌, ℕ, zero, suc, ◌+◌, ◌*◌, ◌/◌, ◌<◌, ◌≤◌, Bool, true, false, ◌&&◌, if◌then◌else◌, ◌==◌, List, [], ◌∷◌, Some, None, Contains, refl, inl, inr, ◌⊎◌, arith}
use Rattle.std.proofs.lemmas.Bool.{lt-ltb, ltb-true}
use Rattle.std.proofs.lemmas.Bool.Decides.{nat_tests}
use Rattle.std.proofs.lemmas.Map.Keys.{sorted_from_strictly_increasing, sorted_tail, below_from_sorted}
use Rattle.std.specs.List.Sorted.{IsStrictlyIncreasing, IsStrictlySortedBy}
use Rattle.std.specs.Ordering.{nat_cmp}
use Rattle.mal_base.specs.Clauses.{is_below, rises, climbs, clash_after, IsLeastOpposite}

-- a number at the head or after it
pub Contains-head : (x : ℕ) (xs : List ℕ) → Contains (x ∷ xs) x
Contains-head x xs = (0, omega arith, refl)

pub Contains-later : (x : ℕ) (xs : List ℕ) (y : ℕ) → Contains xs y → Contains (x ∷ xs) y
Contains-later x xs y (k, h, e) = (suc k, omega arith, e)

pub Contains-cases : (x : ℕ) (xs : List ℕ) (y : ℕ) → Contains (x ∷ xs) y → (x ≡ y) ⊎ Contains xs y
Contains-cases x xs y (zero, h, e) = inl e
Contains-cases x xs y (suc k, h, e) = inr (k, omega arith, e)

pub and-left : (a b : Bool) → (a && b) ≡ true → a ≡ true
and-left true b h = refl
and-left false b h = absurd (cc)

pub and-right : (a b : Bool) → (a && b) ≡ true → b ≡ true
and-right true b h = h
and-right false b h = absurd (cc)

pub and-both : (a b : Bool) → a ≡ true → b ≡ true → (a && b) ≡ true
and-both a b p q = rw (p, q) refl

-- rising numbers climb
climbs-sorted : (xs : List ℕ) → IsStrictlySortedBy nat_cmp xs → climbs xs ≡ true
climbs-sorted [] up = refl
climbs-sorted (x ∷ []) up = refl
climbs-sorted (x ∷ y ∷ ys) up =
    and-both _ _ (lt-ltb x y (below_from_sorted (x ∷ y ∷ ys) 0 1 0 up (omega arith) (omega arith))) (climbs-sorted (y ∷ ys) (sorted_tail nat_cmp x (y ∷ ys) up))

pub climbs-from_increasing : (xs : List ℕ) → IsStrictlyIncreasing xs → climbs xs ≡ true
climbs-from_increasing xs up = climbs-sorted xs (sorted_from_strictly_increasing xs up)

-- what stands after the first of numbers that climb is greater
above-more : (l m : ℕ) (ms : List ℕ) (x : ℕ) → l < m → ((y : ℕ) → Contains ms y → m < y) → (m ≡ x) ⊎ Contains ms x → l < x
above-more l m ms x low rest (inl e) = omega arith
above-more l m ms x low rest (inr later) = let more : m < x = rest x later in omega arith

pub above-first : (l : ℕ) (ls : List ℕ) (x : ℕ) → climbs (l ∷ ls) ≡ true → Contains ls x → l < x
above-first l [] x up (k, h, e) = absurd (omega arith)
above-first l (m ∷ ms) x up has =
    above-more l m ms x (ltb-true l m (and-left _ _ up)) (λ y later. above-first m ms y (and-right _ _ up) later) (Contains-cases m ms x has)

at_least-more : (m : ℕ) (ms : List ℕ) (x : ℕ) → ((y : ℕ) → Contains ms y → m < y) → (m ≡ x) ⊎ Contains ms x → m ≤ x
at_least-more m ms x rest (inl e) = omega arith
at_least-more m ms x rest (inr later) = let more : m < x = rest x later in omega arith

at_least : (m : ℕ) (ms : List ℕ) (x : ℕ) → climbs (m ∷ ms) ≡ true → Contains (m ∷ ms) x → m ≤ x
at_least m ms x up has = at_least-more m ms x (λ y h. above-first m ms y up h) (Contains-cases m ms x has)

-- numbers that climb and have no two neighbours of one variable rise by variable
rises-more : (l m : ℕ) (ms : List ℕ) (b : Bool) → (m / 2 == l / 2) ≡ b → l < m → (clash_after (m / 2) ms ≡ None → rises (m ∷ ms) ≡ true) → (if b then Some (l / 2) else clash_after (m / 2) ms) ≡ None → rises (l ∷ m ∷ ms) ≡ true
rises-more l m ms true e low rest none = absurd (cc)
rises-more l m ms false e low rest none =
    let apart : m / 2 ≢ l / 2 = grind (arith, nat_tests) in
    and-both _ _ (lt-ltb (l / 2) (m / 2) (omega arith)) (rest none)

pub rises-no_clash : (l : ℕ) (ls : List ℕ) → climbs (l ∷ ls) ≡ true → clash_after (l / 2) ls ≡ None → rises (l ∷ ls) ≡ true
rises-no_clash l [] up none = refl
rises-no_clash l (m ∷ ms) up none =
    rises-more l m ms (m / 2 == l / 2) refl (ltb-true l m (and-left _ _ up)) (λ h. rises-no_clash m ms (and-right _ _ up) h) none

-- the first two neighbours of one variable are its literals, and no variable below it has both
least-step : (l m : ℕ) (ms : List ℕ) (v : ℕ) → l < m → m / 2 ≢ l / 2 → ((x : ℕ) → Contains (m ∷ ms) x → m ≤ x) → IsLeastOpposite (m ∷ ms) v → (o : ℕ) → (l ≡ 2 * o) ⊎ Contains (m ∷ ms) (2 * o) → (l ≡ 2 * o + 1) ⊎ Contains (m ∷ ms) (2 * o + 1) → v ≤ o
least-step l m ms v low apart from is o (inl e) (inl f) = absurd (omega arith)
least-step l m ms v low apart from is o (inl e) (inr f) = let g : m ≤ 2 * o + 1 = from _ f in absurd (omega arith)
least-step l m ms v low apart from is o (inr e) (inl f) = let g : m ≤ 2 * o = from _ e in absurd (omega arith)
least-step l m ms v low apart from is o (inr e) (inr f) = is.least o e f

least-here : (l m : ℕ) (ms : List ℕ) (o : ℕ) → ((x : ℕ) → Contains (m ∷ ms) x → l < x) → (l ≡ 2 * o) ⊎ Contains (m ∷ ms) (2 * o) → l / 2 ≤ o
least-here l m ms o from (inl e) = omega arith
least-here l m ms o from (inr e) = let g : l < 2 * o = from _ e in omega arith

clash-more : (l m : ℕ) (ms : List ℕ) (v : ℕ) (b : Bool) → (m / 2 == l / 2) ≡ b → climbs (l ∷ m ∷ ms) ≡ true → (clash_after (m / 2) ms ≡ Some v → IsLeastOpposite (m ∷ ms) v) → (if b then Some (l / 2) else clash_after (m / 2) ms) ≡ Some v → IsLeastOpposite (l ∷ m ∷ ms) v
clash-more l m ms v true e up rest found =
    let low : l < m = ltb-true l m (and-left _ _ up) in
    let same : m / 2 ≡ l / 2 = grind (arith, nat_tests) in
    let is : l / 2 ≡ v = cc in
    let first : l ≡ 2 * v = omega arith in
    let second : m ≡ 2 * v + 1 = omega arith in
    record {
      plus = rw (← first) (Contains-head l (m ∷ ms));
      minus = rw (← second) (Contains-later l (m ∷ ms) m (Contains-head m ms));
      least = λ o p q. rw (← is) (least-here l m ms o (λ x h. above-first l (m ∷ ms) x up h) (Contains-cases l (m ∷ ms) (2 * o) p));
    }
clash-more l m ms v false e up rest found =
    let low : l < m = ltb-true l m (and-left _ _ up) in
    let apart : m / 2 ≢ l / 2 = grind (arith, nat_tests) in
    let is : IsLeastOpposite (m ∷ ms) v = rest found in
    record {
      plus = Contains-later l (m ∷ ms) _ is.plus;
      minus = Contains-later l (m ∷ ms) _ is.minus;
      least = λ o p q. least-step l m ms v low apart (λ x h. at_least m ms x (and-right _ _ up) h) is o (Contains-cases l (m ∷ ms) (2 * o) p) (Contains-cases l (m ∷ ms) (2 * o + 1) q);
    }

pub clash-least : (l : ℕ) (ls : List ℕ) (v : ℕ) → climbs (l ∷ ls) ≡ true → clash_after (l / 2) ls ≡ Some v → IsLeastOpposite (l ∷ ls) v
clash-least l [] v up found = absurd (cc)
clash-least l (m ∷ ms) v up found =
    clash-more l m ms v (m / 2 == l / 2) refl up (λ h. clash-least m ms v (and-right _ _ up) h) found

-- literals that rise by variable climb
pub climbs-from_rises : (lits : List ℕ) → rises lits ≡ true → climbs lits ≡ true
climbs-from_rises [] up = refl
climbs-from_rises (l ∷ []) up = refl
climbs-from_rises (l ∷ m ∷ ms) up =
    let low : l / 2 < m / 2 = ltb-true (l / 2) (m / 2) (and-left _ _ up) in
    and-both _ _ (lt-ltb l m (omega arith)) (climbs-from_rises (m ∷ ms) (and-right _ _ up))

pub rises-tail : (l : ℕ) (ls : List ℕ) → rises (l ∷ ls) ≡ true → rises ls ≡ true
rises-tail l ls up = and-right (is_below l ls) (rises ls) up

-- after the first of literals that rise stand greater variables
over-more : (l m : ℕ) (ms : List ℕ) (x : ℕ) → l / 2 < m / 2 → ((y : ℕ) → Contains ms y → m / 2 < y / 2) → (m ≡ x) ⊎ Contains ms x → l / 2 < x / 2
over-more l m ms x low rest (inl e) = rw (← e) low
over-more l m ms x low rest (inr later) = let more : m / 2 < x / 2 = rest x later in omega arith

pub over-first : (l : ℕ) (ls : List ℕ) (x : ℕ) → rises (l ∷ ls) ≡ true → Contains ls x → l / 2 < x / 2
over-first l [] x up (k, h, e) = absurd (omega arith)
over-first l (m ∷ ms) x up has =
    over-more l m ms x (ltb-true (l / 2) (m / 2) (and-left _ _ up)) (λ y later. over-first m ms y (and-right _ _ up) later) (Contains-cases m ms x has)

-- literals that rise have no variable with both signs
apart-more : (l : ℕ) (ls : List ℕ) (v : ℕ) → ((x : ℕ) → Contains ls x → l / 2 < x / 2) → (Contains ls (2 * v) → Contains ls (2 * v + 1) → ⊥) → (l ≡ 2 * v) ⊎ Contains ls (2 * v) → (l ≡ 2 * v + 1) ⊎ Contains ls (2 * v + 1) → ⊥
apart-more l ls v over rest (inl e) (inl f) = omega arith
apart-more l ls v over rest (inl e) (inr f) = let g : l / 2 < (2 * v + 1) / 2 = over _ f in omega arith
apart-more l ls v over rest (inr e) (inl f) = let g : l / 2 < (2 * v) / 2 = over _ e in omega arith
apart-more l ls v over rest (inr e) (inr f) = rest e f

pub rises-apart : (lits : List ℕ) (v : ℕ) → rises lits ≡ true → Contains lits (2 * v) → Contains lits (2 * v + 1) → ⊥
rises-apart [] v up (k, h, e) q = omega arith
rises-apart (l ∷ ls) v up p q =
    apart-more l ls v (λ x h. over-first l ls x up h) (λ e f. rises-apart ls v (rises-tail l ls up) e f) (Contains-cases l ls _ p) (Contains-cases l ls _ q)
