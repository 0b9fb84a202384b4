use Rattle.std.proofs.Common.{◌≡◌, ℕ, suc, ◌+◌, ◌<◌, ◌≤◌, Bool, true, false, cond, List, [], ◌∷◌, ◌++◌, reverse, eqb, refl, ap, ◌∙◌, arith}
use Rattle.std.specs.Prelude.{All, nat_lt}
use Rattle.std.specs.List.Sorted.{IsPermutation, IsSorted, IsNonDecreasing}
use Rattle.std.specs.Ordering.{nat_cmp}
use Rattle.std.proofs.lemmas.List.{reverse-append}
use Rattle.std.proofs.lemmas.List.Elements.{All-nil, All-cons, All-head, All-tail}
use Rattle.std.proofs.lemmas.List.Sorted.{IsNonDecreasingBy-from_sort}
use Rattle.std.proofs.lemmas.Bool.{eqb-true, eq-eqb, ltb-true, ltb-false}
use Rattle.mal_base.specs.Literals.{negated}
use Rattle.mal_base.specs.declared.trail_entry.TrailEntry.{TrailEntry}
use Rattle.spec_learn.specs.Analysis.{put, clause_of}
use Rattle.mal_learn.proofs.OrderedLemmas.{IsOrdered, times, times-cons, times-push, times-moved, ordered-same}

-- the negations of entries, the first last
abbrev pub negations : List TrailEntry → List ℕ
negations [] = []
negations (e ∷ es) = negations es ++ negated e.lit ∷ []

-- hints after the conflict, the first last
abbrev pub turned : ℕ → List ℕ → List ℕ
turned id [] = id ∷ []
turned id (h ∷ hs) = turned id hs ++ h ∷ []

pub turned-back : (id : ℕ) (hs : List ℕ) → reverse (turned id hs) ≡ hs ++ id ∷ []
turned-back id [] = refl
turned-back id (h ∷ hs) = reverse-append (turned id hs) (h ∷ []) ∙ ap (λ (xs : List ℕ). h ∷ xs) (turned-back id hs)

-- each is at most those after it
abbrev IsUp : List ℕ → Type 0
IsUp xs = IsOrdered (λ x y. x ≤ y) xs

-- ordered lists of the same numbers are equal
up-same : (xs ys : List ℕ) → IsUp xs → IsUp ys → ((x : ℕ) → times eqb x xs ≡ times eqb x ys) → xs ≡ ys
up-same xs ys = ordered-same eqb (λ x. eq-eqb x x refl) eqb-true (λ x y. x ≤ y) (λ x. omega arith) (λ x y p q. omega arith) xs ys

-- putting keeps what holds of all, the order, and the numbers
put-all : (P : ℕ → Type 0) (l : ℕ) (ms : List ℕ) → P l → All P ms → All P (put l ms)
put-all P l [] p h = All-cons P l [] p h
put-all P l (m ∷ ms) p h = by_less (put-all P l ms p (All-tail P m ms h)) (nat_lt l m)
  where
    by_less : All P (put l ms) → (b : Bool) → All P (cond b (l ∷ (m ∷ ms)) (m ∷ put l ms))
    by_less f true = All-cons P l (m ∷ ms) p h
    by_less f false = All-cons P m (put l ms) (All-head P m ms h) f

all-from : (l m : ℕ) (ms : List ℕ) → l < m → All (λ y. m ≤ y) ms → All (λ y. l ≤ y) ms
all-from l m [] q h = All-nil (λ y. l ≤ y)
all-from l m (x ∷ xs) q h = All-cons (λ y. l ≤ y) x xs (let u : m ≤ x = All-head (λ y. m ≤ y) x xs h in omega arith) (all-from l m xs q (All-tail (λ y. m ≤ y) x xs h))

put-up : (l : ℕ) (ms : List ℕ) → IsUp ms → IsUp (put l ms)
put-up l [] h = (All-nil (λ y. l ≤ y), tt)
put-up l (m ∷ ms) h = by_less (put-up l ms h.1) (nat_lt l m) refl
  where
    by_less : IsUp (put l ms) → (b : Bool) → nat_lt l m ≡ b → IsUp (cond b (l ∷ (m ∷ ms)) (m ∷ put l ms))
    by_less f true q = let low : l < m = ltb-true l m q in (All-cons (λ y. l ≤ y) m ms (omega arith) (all-from l m ms low h.0), h)
    by_less f false q = (put-all (λ y. m ≤ y) l ms (ltb-false l m q) h.0, f)

put-times : (x l : ℕ) (ms : List ℕ) → times eqb x (put l ms) ≡ cond (eqb x l) 1 0 + times eqb x ms
put-times x l [] = times-cons eqb x l []
put-times x l (m ∷ ms) = by_less (put-times x l ms) (nat_lt l m)
  where
    by_less : times eqb x (put l ms) ≡ cond (eqb x l) 1 0 + times eqb x ms → (b : Bool) → times eqb x (cond b (l ∷ (m ∷ ms)) (m ∷ put l ms)) ≡ cond (eqb x l) 1 0 + times eqb x (m ∷ ms)
    by_less f true = times-cons eqb x l (m ∷ ms)
    by_less f false = let a = times-cons eqb x m (put l ms) in let b = times-cons eqb x m ms in omega arith

clause-up : (es : List TrailEntry) → IsUp (clause_of es)
clause-up [] = tt
clause-up (e ∷ es) = put-up (negated e.lit) (clause_of es) (clause-up es)

clause-times : (x : ℕ) (es : List TrailEntry) → times eqb x (negations es) ≡ times eqb x (clause_of es)
clause-times x [] = refl
clause-times x (e ∷ es) =
    let a : times eqb x (negations es ++ negated e.lit ∷ []) ≡ times eqb x (negations es) + cond (eqb x (negated e.lit)) 1 0 = times-push eqb x (negations es) (negated e.lit) in
    let b = put-times x (negated e.lit) (clause_of es) in
    let c = clause-times x es in
    omega arith

-- a sorted list is ordered
up-from_sorted : (xs : List ℕ) → IsNonDecreasing xs → IsUp xs
up-from_sorted [] h = tt
up-from_sorted (x ∷ xs) h = ((λ k d l. h 0 (suc k) d (omega arith) (omega arith)), up-from_sorted xs (λ i j d a b. h (suc i) (suc j) d (omega arith) (omega arith)))

-- the negations of entries, sorted, are their clause
pub sorted-clause : (es : List TrailEntry) (lits sorted : List ℕ) → lits ≡ negations es → IsPermutation lits sorted → IsSorted nat_cmp sorted → sorted ≡ clause_of es
sorted-clause es lits sorted q p u = up-same sorted (clause_of es) (up-from_sorted sorted (IsNonDecreasingBy-from_sort (λ x. x) sorted u)) (clause-up es) (λ x. times-moved eqb x lits sorted p ∙ (ap (times eqb x) q ∙ clause-times x es))
