-- Orderly lines, and lists of lines by rising number.
use Rattle.std.proofs.Common.{◌≡◌, ◌≢◌, ℕ, zero, suc, ◌+◌, ◌<◌, ◌≤◌, Bool, true, false, List, [], ◌∷◌, ◌++◌, eqb, get_or, refl, sym, ◌∙◌, ap, inl, inr, ◌⊎◌, arith}
use Rattle.std.specs.Prelude.{All, IsPermutation}
use Rattle.std.specs.List.{IsDistinct}
use Rattle.std.specs.List.Sorted.{IsNonDecreasingBy, IsStrictlyIncreasing}
use Rattle.std.proofs.lemmas.Bool.{eqb-true, eqb-false, eq-eqb, ne_eqb, cases_Bool}
use Rattle.std.proofs.lemmas.List.Elements.{All-head, All-tail, All-nil, All-push, All-weaker, All-from_recursion, recursion_from_All}
use Rattle.std.proofs.lemmas.Map.Keys.{IsDistinct-cons, IsDistinct-head, IsDistinct-tail, IsDistinct-IsPermutation}
use Rattle.std.proofs.lemmas.List.Sorted.{Contains-permutation, IsPermutation-sym}
use Rattle.mal_base.specs.NumberedClause.{Line}
use Rattle.spec_proof.specs.Log.{IsAbove, AreApart, IsOrderly}
use Rattle.spec_proof.specs.Trimmed.{by_id, AreRising, IsTrimmed, ids_of}
use Rattle.spec_proof.specs.Among.{Among}
use Rattle.spec_proof.proofs.Among.{among-from_contains, contains-from_among, of-all, all-from_among}
use Rattle.spec_proof.proofs.Reaching.{sorted-among, among-sorted, sorted-rising}

-- one line more, with a number of its own
pub apart-push : (lines : List Line) (line : Line) → AreApart lines → All (λ other. other.id ≢ line.id) lines → AreApart (lines ++ line ∷ [])
apart-push [] line apart others = (All-nil (λ other. other.id ≢ line.id), tt)
apart-push (x ∷ xs) line apart others =
    let this : x.id ≢ line.id = All-head (λ other. other.id ≢ line.id) x xs others in
    let that : line.id ≢ x.id = λ e. this (sym e) in
    (All-push (λ other. other.id ≢ x.id) xs line apart.0 that, apart-push xs line apart.1 (All-tail (λ other. other.id ≢ line.id) x xs others))

pub orderly-push : (lines : List Line) (line : Line) → IsOrderly lines → All (λ other. other.id ≢ line.id) lines → IsAbove line → IsOrderly (lines ++ line ∷ [])
orderly-push lines line is others above = record { apart = apart-push lines line is.apart others; above = All-push IsAbove lines line is.above above }

-- in another order lines have numbers of their own too
abbrev same-id : Line → Line → Bool
same-id x y = eqb x.id y.id

distinct-from_apart : (lines : List Line) → AreApart lines → IsDistinct same-id lines
unfolding IsDistinct
distinct-from_apart [] apart = tt
distinct-from_apart (x ∷ xs) apart =
    IsDistinct-cons same-id x xs (recursion_from_All (λ y. same-id x y ≡ false) xs (All-weaker (λ other. other.id ≢ x.id) (λ y. same-id x y ≡ false) (λ y h. ne_eqb x.id y.id (λ e. h (sym e))) xs apart.0)) (distinct-from_apart xs apart.1)

apart-from_distinct : (lines : List Line) → IsDistinct same-id lines → AreApart lines
apart-from_distinct [] is = tt
apart-from_distinct (x ∷ xs) is =
    (All-weaker (λ y. same-id x y ≡ false) (λ other. other.id ≢ x.id) (λ y h e. eqb-false x.id y.id h (sym e)) xs (All-from_recursion (λ y. same-id x y ≡ false) xs (IsDistinct-head same-id x xs is)), apart-from_distinct xs (IsDistinct-tail same-id x xs is))

eqb-flips : (m n : ℕ) → eqb m n ≡ eqb n m
eqb-flips m n = by_test (cases_Bool (eqb m n))
  where
    by_test : (eqb m n ≡ true) ⊎ (eqb m n ≡ false) → eqb m n ≡ eqb n m
    by_test (inl q) = q ∙ sym (eq-eqb n m (sym (eqb-true m n q)))
    by_test (inr q) = q ∙ sym (ne_eqb n m (λ e. eqb-false m n q (sym e)))

pub apart-permuted : (xs ys : List Line) → IsPermutation xs ys → AreApart xs → AreApart ys
apart-permuted xs ys moves apart = apart-from_distinct ys (IsDistinct-IsPermutation same-id (λ x y. eqb-flips x.id y.id) xs ys moves (distinct-from_apart xs apart))

-- numbers that do not fall and differ rise
pub rising-from_sorted : (xs : List Line) → IsNonDecreasingBy (λ l. l.id) xs → AreApart xs → AreRising xs
rising-from_sorted [] up apart = tt
rising-from_sorted (x ∷ xs) up apart = (
  λ k d h. let low : x.id ≤ (get_or xs k d).id = up 0 (suc k) d (omega arith) (omega arith) in let other : (get_or xs k d).id ≢ x.id = apart.0 k d h in omega arith,
  rising-from_sorted xs (λ i j d h k. up (suc i) (suc j) d (omega arith) (omega arith)) apart.1,
)

-- two lists by rising number with the same lines are equal
first-same : (x y : Line) (xs ys : List Line) → AreRising (x ∷ xs) → AreRising (y ∷ ys) → (y ≡ x) ⊎ Among x ys → (x ≡ y) ⊎ Among y xs → x ≡ y
first-same x y xs ys up down (inl e) k = sym e
first-same x y xs ys up down (inr h) (inl e) = e
first-same x y xs ys up down (inr h) (inr k) =
    let a : y.id < x.id = of-all (λ later. y.id < later.id) ys x down.0 h in
    let b : x.id < y.id = of-all (λ later. x.id < later.id) xs y up.0 k in
    absurd (omega arith)

rest-there : (x y z : Line) (xs ys : List Line) → AreRising (x ∷ xs) → x ≡ y → Among z xs → (y ≡ z) ⊎ Among z ys → Among z ys
rest-there x y z xs ys up e h (inr k) = k
rest-there x y z xs ys up e h (inl f) =
    let over : x.id < z.id = of-all (λ later. x.id < later.id) xs z up.0 h in
    let same : x.id ≡ z.id = ap (λ (l : Line). l.id) (e ∙ f) in
    absurd (omega arith)

pub rising-same : (xs ys : List Line) → AreRising xs → AreRising ys → ((z : Line) → Among z xs → Among z ys) → ((z : Line) → Among z ys → Among z xs) → xs ≡ ys
rising-same [] [] up down there back = refl
rising-same [] (y ∷ ys) up down there back = absurd (back y (inl refl))
rising-same (x ∷ xs) [] up down there back = absurd (there x (inl refl))
rising-same (x ∷ xs) (y ∷ ys) up down there back =
    let e : x ≡ y = first-same x y xs ys up down (there x (inl refl)) (back y (inl refl)) in
    let rest : xs ≡ ys = rising-same xs ys up.1 down.1 (λ z h. rest-there x y z xs ys up e h (there z (inr h))) (λ z h. rest-there y x z ys xs down (sym e) h (back z (inr h))) in
    ap (λ (l : Line). l ∷ xs) e ∙ ap (λ (r : List Line). y ∷ r) rest

-- a sort by number gives the lines by number
pub sorted-is : (lines sorted : List Line) → AreApart lines → IsPermutation lines sorted → IsNonDecreasingBy (λ l. l.id) sorted → sorted ≡ by_id lines
sorted-is lines sorted apart moves up =
    rising-same sorted (by_id lines) (rising-from_sorted sorted up (apart-permuted lines sorted moves apart)) (sorted-rising lines apart)
    (λ z h. sorted-among lines z (among-from_contains lines z (Contains-permutation sorted lines z (IsPermutation-sym lines sorted moves) (contains-from_among sorted z h))))
    (λ z h. among-from_contains sorted z (Contains-permutation lines sorted z moves (contains-from_among lines z (among-sorted lines z h))))

-- the numbers of lines by rising number rise
pub ids-increase : (lines : List Line) → AreRising lines → IsStrictlyIncreasing (ids_of lines)
ids-increase [] up k h = absurd (omega arith)
ids-increase (x ∷ []) up k h = absurd (omega arith)
ids-increase (x ∷ y ∷ ys) up zero h = All-head (λ later. x.id < later.id) y ys up.0
ids-increase (x ∷ y ∷ ys) up (suc k) h = let next : suc k + 1 ≡ suc (k + 1) = omega arith in rw next (ids-increase (y ∷ ys) up.1 k (omega arith))

-- lines by number, and what is reached among them, are above their hints
pub above-sorted : (lines : List Line) → All IsAbove lines → All IsAbove (by_id lines)
above-sorted lines above = all-from_among IsAbove (by_id lines) (λ z h. of-all IsAbove lines z above (among-sorted lines z h))

pub sorted-trimmed : (lines : List Line) → IsOrderly lines → IsTrimmed (by_id lines)
sorted-trimmed lines is = record { rising = sorted-rising lines is.apart; above = above-sorted lines is.above }
