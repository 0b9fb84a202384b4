use Rattle.std.proofs.Common.{◌≡◌, ℕ, zero, suc, ◌+◌, ◌-◌, ◌*◌, ◌/◌, ◌%◌, ◌≤◌, Bool, true, false, cond, not, ◌||◌, ◌==◌, nat_le, List, [], ◌∷◌, ◌++◌, Some, refl, sym, ◌∙◌, arith}
use Rattle.std.proofs.lemmas.Bool.{leb-true, le-leb, and_from, or_left, or_right, eq-eqb, ne_eqb}
use Rattle.std.proofs.lemmas.List.Folds.{list_all-append}
use Rattle.mal_base.specs.Literals.{literal}
use Rattle.spec_logic.specs.Logic.{value_of, is_true_in, satisfies, satisfies_clause}
use Rattle.spec_max.specs.Counter.{counted, starts, carries, adds, row, rows}

-- a literal of a variable has its value, or the other
pub true-plus : (e : List Bool) (v : ℕ) → is_true_in e (2 * v) ≡ value_of e v
true-plus e v =
    let even : ((2 * v) % 2 == 0) ≡ true = eq-eqb ((2 * v) % 2) 0 (omega arith) in
    let half : (2 * v) / 2 ≡ v = omega arith in
    rw (even, half) refl

pub true-minus : (e : List Bool) (v : ℕ) → is_true_in e (2 * v + 1) ≡ not (value_of e v)
true-minus e v =
    let odd : ((2 * v + 1) % 2 == 0) ≡ false = ne_eqb ((2 * v + 1) % 2) 0 (λ q. omega arith) in
    let half : (2 * v + 1) / 2 ≡ v = omega arith in
    rw (odd, half) refl

-- row i says that so many are false
abbrev pub Says : List Bool → ℕ → ℕ → ℕ → ℕ → Type 0
Says e v n i c = (j : ℕ) → 1 ≤ j → j ≤ n → value_of e (counted v n i j) ≡ nat_le j c

-- the count after one more literal
abbrev pub after : List Bool → ℕ → ℕ → ℕ
after e c l = cond (is_true_in e l) c (suc c)

carried : (b : Bool) (c d j : ℕ) (x y : Bool) → b ≡ nat_le j c → c ≤ d → x ≡ not b → y ≡ nat_le j d → (x || (y || false)) ≡ true
carried false c d j x y e le p q = or_left x (y || false) p
carried true c d j x y e le p q = or_right x (y || false) (or_left y false (q ∙ le-leb j d (let low = leb-true j c (sym e) in omega arith)))

pub carries-true : (e : List Bool) (v n i c d j k : ℕ) → Says e v n i c → Says e v n (suc i) d → c ≤ d → 1 ≤ j → j + k ≤ suc n → satisfies e (carries v n i j k) ≡ true
carries-true e v n i c d j zero s t le low high = refl
carries-true e v n i c d j (suc k) s t le low high =
    and_from (satisfies_clause e (Some (literal (counted v n i j) false ∷ literal (counted v n (suc i) j) true ∷ []))) (satisfies e (carries v n i (suc j) k))
    (carried (value_of e (counted v n i j)) c d j (is_true_in e (2 * counted v n i j + 1)) (is_true_in e (2 * counted v n (suc i) j)) (s j low (omega arith)) le (true-minus e (counted v n i j)) (true-plus e (counted v n (suc i) j) ∙ t j low (omega arith)))
    (carries-true e v n i c d (suc j) k s t le (omega arith) (omega arith))

one-more : (a b : Bool) (c j : ℕ) (x y z : Bool) → x ≡ a → b ≡ nat_le j c → y ≡ not b → z ≡ nat_le (suc j) (cond a c (suc c)) → (x || (y || (z || false))) ≡ true
one-more true b c j x y z p e q r = or_left x (y || (z || false)) p
one-more false false c j x y z p e q r = or_right x (y || (z || false)) (or_left y (z || false) q)
one-more false true c j x y z p e q r = or_right x (y || (z || false)) (or_right y (z || false) (or_left z false (r ∙ le-leb (suc j) (suc c) (let low = leb-true j c (sym e) in omega arith))))

pub adds-true : (e : List Bool) (v n i c l j k : ℕ) → Says e v n i c → Says e v n (suc i) (after e c l) → 1 ≤ j → suc (j + k) ≤ suc n → satisfies e (adds v n i l j k) ≡ true
adds-true e v n i c l j zero s t low high = refl
adds-true e v n i c l j (suc k) s t low high =
    and_from (satisfies_clause e (Some (l ∷ literal (counted v n i j) false ∷ literal (counted v n (suc i) (suc j)) true ∷ []))) (satisfies e (adds v n i l (suc j) k))
    (one-more (is_true_in e l) (value_of e (counted v n i j)) c j (is_true_in e l) (is_true_in e (2 * counted v n i j + 1)) (is_true_in e (2 * counted v n (suc i) (suc j))) refl (s j low (omega arith)) (true-minus e (counted v n i j)) (true-plus e (counted v n (suc i) (suc j)) ∙ t (suc j) (omega arith) (omega arith)))
    (adds-true e v n i c l (suc j) k s t (omega arith) (omega arith))

first-one : (a : Bool) (c : ℕ) (x y : Bool) → x ≡ a → y ≡ nat_le 1 (cond a c (suc c)) → (x || (y || false)) ≡ true
first-one true c x y p q = or_left x (y || false) p
first-one false c x y p q = or_right x (y || false) (or_left y false (q ∙ le-leb 1 (suc c) (omega arith)))

pub starts-true : (e : List Bool) (v n i c l : ℕ) → Says e v n i (after e c l) → 1 ≤ n → satisfies_clause e (starts v n i l) ≡ true
starts-true e v n i c l t some = first-one (is_true_in e l) c (is_true_in e l) (is_true_in e (2 * counted v n i 1)) refl (true-plus e (counted v n i 1) ∙ t 1 (omega arith) some)

grows : (b : Bool) (c : ℕ) → c ≤ cond b c (suc c)
grows true c = omega arith
grows false c = omega arith

pub row-true : (e : List Bool) (v n i c l : ℕ) → Says e v n i c → Says e v n (suc i) (after e c l) → 1 ≤ n → satisfies e (row v n i l) ≡ true
row-true e v n i c l s t some =
    and_from (satisfies_clause e (starts v n (suc i) l)) (satisfies e (carries v n i 1 n ++ adds v n i l 1 (n - 1)))
    (starts-true e v n (suc i) c l t some)
    (list_all-append (satisfies_clause e) (carries v n i 1 n) (adds v n i l 1 (n - 1))
    ∙ and_from (satisfies e (carries v n i 1 n)) (satisfies e (adds v n i l 1 (n - 1)))
    (carries-true e v n i c (after e c l) 1 n s t (grows (is_true_in e l) c) (omega arith) (omega arith))
    (adds-true e v n i c l 1 (n - 1) s t (omega arith) (omega arith)))

-- row i says this count, and the rows after it say those after one literal more each
abbrev pub Count : List Bool → ℕ → ℕ → ℕ → ℕ → List ℕ → Type 0
Count e v n i c [] = Says e v n i c
Count e v n i c (l ∷ ls) = Says e v n i c × Count e v n (suc i) (after e c l) ls

pub count-first : (e : List Bool) (v n i c : ℕ) (ls : List ℕ) → Count e v n i c ls → Says e v n i c
count-first e v n i c [] h = h
count-first e v n i c (l ∷ ls) h = h.0

pub rows-true : (e : List Bool) (v n i c : ℕ) (ls : List ℕ) → Count e v n i c ls → 1 ≤ n → satisfies e (rows v n i ls) ≡ true
rows-true e v n i c [] h some = refl
rows-true e v n i c (l ∷ ls) h some =
    list_all-append (satisfies_clause e) (row v n i l) (rows v n (suc i) ls)
    ∙ and_from (satisfies e (row v n i l)) (satisfies e (rows v n (suc i) ls))
    (row-true e v n i c l h.0 (count-first e v n (suc i) (after e c l) ls h.1) some)
    (rows-true e v n (suc i) (after e c l) ls h.1 some)
