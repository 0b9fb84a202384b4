use Rattle.std.proofs.Common.{◌≡◌, ℕ, zero, suc, ◌+◌, ◌-◌, ◌*◌, ◌/◌, ◌%◌, ◌≤◌, ◌<◌, Bool, true, false, cond, not, ◌&&◌, ◌==◌, nat_le, List, [], ◌∷◌, ◌++◌, length, take, append_assoc, length-append, refl, sym, ap, ap₂, subst, ◌∙◌, arith}
use Rattle.std.specs.Prelude.{get_or}
use Rattle.std.proofs.lemmas.Bool.{leb-true, and_parts, and_from, not_from_false, false_from_ne_true}
use Rattle.std.proofs.lemmas.List.{get_or-append-add, get_or_append_left}
use Rattle.mal_base.specs.Formulas.{is_within}
use Rattle.spec_logic.specs.Logic.{value_of, is_true_in, satisfies, satisfies_clause}
use Rattle.spec_max.specs.Counter.{counted, starts, rows}
use Rattle.spec_max.specs.Cost.{cost}
use Rattle.spec_max.specs.Laws.{CostExtends}
use Rattle.spec_max.proofs.Rows.{Says, after, Count, count-first, rows-true, starts-true, true-minus}
use Rattle.spec_max.proofs.Totals.{total, total-cost, Same, same-cost, same-take, take-whole}

-- the values of a row that has counted so many, from this number on
abbrev pub row_from : ℕ → ℕ → ℕ → List Bool
row_from j zero c = []
row_from j (suc k) c = nat_le j c ∷ row_from (suc j) k c

row-length : (j k c : ℕ) → length (row_from j k c) ≡ k
row-length j zero c = refl
row-length j (suc k) c = ap (λ (n : ℕ). suc n) (row-length (suc j) k c)

-- the values of the rows of literals, after a count
abbrev pub built : ℕ → ℕ → List Bool → List ℕ → List Bool
built n c a [] = []
built n c a (l ∷ ls) = row_from 1 n (after a c l) ++ built n (after a c l) a ls

built-length : (n c : ℕ) (a : List Bool) (ls : List ℕ) → length (built n c a ls) ≡ length ls * n
built-length n c a [] = omega arith
built-length n c a (l ∷ ls) =
    length-append (row_from 1 n (after a c l)) (built n (after a c l) a ls)
    ∙ ap₂ (λ (x y : ℕ). x + y) (row-length 1 n (after a c l)) (built-length n (after a c l) a ls)
    ∙ one-row n (length ls)
  where
    one-row : (n k : ℕ) → n + k * n ≡ suc k * n
    one-row n k = grind arith

row-at : (j k c i : ℕ) (rest : List Bool) → i < k → get_or (row_from j k c ++ rest) i false ≡ nat_le (j + i) c
row-at j zero c i rest low = absurd (omega arith)
row-at j (suc k) c zero rest low = ap (λ (n : ℕ). nat_le n c) (omega arith)
row-at j (suc k) c (suc i) rest low = row-at (suc j) k c i rest (omega arith) ∙ ap (λ (n : ℕ). nat_le n c) (omega arith)

one-less : (at i : ℕ) → at + suc i - 1 ≡ at + i
one-less at i = omega arith

add-one : (i : ℕ) → 1 + i ≡ suc i
add-one i = omega arith

says-here : (front rest : List Bool) (v n i c : ℕ) → length front ≡ v + (i - 1) * n → Says (front ++ (row_from 1 n c ++ rest)) v n i c
says-here front rest v n i c long zero low high = absurd (omega arith)
says-here front rest v n i c long (suc j) low high =
    ap (λ (k : ℕ). get_or (front ++ (row_from 1 n c ++ rest)) (k + suc j - 1) false) (sym long)
    ∙ ap (λ (k : ℕ). get_or (front ++ (row_from 1 n c ++ rest)) k false) (one-less (length front) j)
    ∙ get_or-append-add front (row_from 1 n c ++ rest) j false
    ∙ row-at 1 n c j rest (omega arith)
    ∙ ap (λ (m : ℕ). nat_le m c) (add-one j)

-- a row stands n variables after the one before
pub row-behind : (v n i : ℕ) → 1 ≤ i → v + (i - 1) * n + n ≡ v + (suc i - 1) * n
row-behind v n zero low = absurd (omega arith)
row-behind v n (suc k) low =
    ap (λ (m : ℕ). v + m * n + n) (less k) ∙ one-row v n k ∙ ap (λ (m : ℕ). v + m * n) (sym (less (suc k)))
  where
    less : (m : ℕ) → suc m - 1 ≡ m
    less m = omega arith

    one-row : (v n k : ℕ) → v + k * n + n ≡ v + suc k * n
    one-row v n k = grind arith

counted-so : (e a front : List Bool) (v n i c : ℕ) (ls : List ℕ) → e ≡ front ++ (row_from 1 n c ++ built n c a ls) → length front ≡ v + (i - 1) * n → 1 ≤ i → Same e a ls → Count e v n i c ls
counted-so e a front v n i c [] is long low same = subst (λ (x : List Bool). Says x v n i c) (sym is) (says-here front [] v n i c long)
counted-so e a front v n i c (l ∷ ls) is long low same =
    let next : List Bool = front ++ row_from 1 n c in
    let more : length next ≡ v + (suc i - 1) * n = length-append front (row_from 1 n c) ∙ ap₂ (λ (x y : ℕ). x + y) long (row-length 1 n c) ∙ row-behind v n i low in
    let there : e ≡ next ++ (row_from 1 n (after a c l) ++ built n (after a c l) a ls) = is ∙ sym (append_assoc front (row_from 1 n c) (built n c a (l ∷ ls))) in
    let step : after a c l ≡ after e c l = ap (λ (b : Bool). cond b c (suc c)) (sym same.0) in (
      subst (λ (x : List Bool). Says x v n i c) (sym is) (says-here front (built n c a (l ∷ ls)) v n i c long),
      subst (λ (d : ℕ). Count e v n (suc i) d ls) step (counted-so e a next v n (suc i) (after a c l) ls there more (omega arith) same.1),
    )

-- the row after so many literals more says the count after them
count-at : (e : List Bool) (v n i c m : ℕ) (ls : List ℕ) → Count e v n i c ls → m ≤ length ls → Says e v n (i + m) (total e c (take m ls))
count-at e v n i c zero ls h few = let same : i ≡ i + zero = omega arith in subst (λ (k : ℕ). Says e v n k c) same (count-first e v n i c ls h)
count-at e v n i c (suc m) [] h few = absurd (omega arith)
count-at e v n i c (suc m) (l ∷ ls) h few =
    let same : suc i + m ≡ i + suc m = omega arith in
    subst (λ (k : ℕ). Says e v n k (total e (after e c l) (take m ls))) same (count-at e v n (suc i) (after e c l) m ls h.1 (omega arith))

value-kept : (a more : List Bool) (v : ℕ) → 1 ≤ v → v ≤ length a → value_of (a ++ more) v ≡ value_of a v
value-kept a more v low high = get_or_append_left a more false (v - 1) (omega arith)

literal-kept : (a more : List Bool) (l : ℕ) → 1 ≤ l / 2 → l / 2 ≤ length a → is_true_in (a ++ more) l ≡ is_true_in a l
literal-kept a more l low high = ap (λ (b : Bool). cond (l % 2 == 0) b (not b)) (value-kept a more (l / 2) low high)

-- what is put after an assignment leaves its literals
pub same-kept : (a more : List Bool) (ls : List ℕ) → is_within (length a) ls ≡ true → Same (a ++ more) a ls
same-kept a more [] h = tt
same-kept a more (l ∷ ls) h =
    let both = and_parts (nat_le 1 (l / 2) && nat_le (l / 2) (length a)) (is_within (length a) ls) h in
    let here = and_parts (nat_le 1 (l / 2)) (nat_le (l / 2) (length a)) both.0 in
    (literal-kept a more l (leb-true 1 (l / 2) here.0) (leb-true (l / 2) (length a) here.1), same-kept a more ls both.1)

le-false : (j c : ℕ) → c < j → nat_le j c ≡ false
le-false j c lt = false_from_ne_true (nat_le j c) (λ e. let le = leb-true j c e in omega arith)

pub cost_extends : CostExtends
cost_extends v [] a within whole = ([], record { long = refl; satisfied = refl; said = λ i j low high. absurd (omega arith); below = λ c some few less. absurd (omega arith) })
cost_extends v (l ∷ ls) a within whole =
    let n : ℕ = suc (length ls) in
    let more : List Bool = built n 0 a (l ∷ ls) in
    let e : List Bool = a ++ more in
    let same = same-kept a more (l ∷ ls) (subst (λ (k : ℕ). is_within k (l ∷ ls) ≡ true) (sym whole) within) in
    let step : after a 0 l ≡ after e 0 l = ap (λ (b : Bool). cond b 0 1) (sym same.0) in
    let front : length a ≡ v + (1 - 1) * n = whole ∙ none v n in
    let rows_count : Count e v n 1 (after e 0 l) ls = subst (λ (d : ℕ). Count e v n 1 d ls) step (counted-so e a a v n 1 (after a 0 l) ls refl front (omega arith) same.1) in
    let said = said-by e a v n l ls rows_count same in (
      more,
      record {
        long = built-length n 0 a (l ∷ ls);
        satisfied = and_from (satisfies_clause e (starts v n 1 l)) (satisfies e (rows v n 1 ls)) (starts-true e v n 1 0 l (count-first e v n 1 (after e 0 l) ls rows_count) (omega arith)) (rows-true e v n 1 (after e 0 l) ls rows_count (omega arith));
        said = said;
        below = λ c some few less. true-minus e (counted v n n c) ∙ not_from_false (value_of e (counted v n n c)) (said n c (omega arith) (omega arith) some few ∙ le-false c (cost (take n (l ∷ ls)) a) (subst (λ (xs : List ℕ). cost xs a < c) (sym (take-whole (l ∷ ls))) less));
      },
    )
  where
    none : (v n : ℕ) → v ≡ v + (1 - 1) * n
    none v n = grind arith

    said-by : (e a : List Bool) (v n l : ℕ) (ls : List ℕ) → Count e v n 1 (after e 0 l) ls → Same e a (l ∷ ls) → (i j : ℕ) → 1 ≤ i → i ≤ suc (length ls) → 1 ≤ j → j ≤ n → value_of e (counted v n i j) ≡ nat_le j (cost (take i (l ∷ ls)) a)
    said-by e a v n l ls h same zero j low high some few = absurd (omega arith)
    said-by e a v n l ls h same (suc m) j low high some few =
        let one : 1 + m ≡ suc m = omega arith in
        let sum : total e 0 (take (suc m) (l ∷ ls)) ≡ cost (take (suc m) (l ∷ ls)) a = total-cost e (take (suc m) (l ∷ ls)) ∙ same-cost e a (take (suc m) (l ∷ ls)) (same-take e a (suc m) (l ∷ ls) same) in
        subst (λ (k : ℕ). value_of e (counted v n k j) ≡ nat_le j (total e 0 (take (suc m) (l ∷ ls)))) one (count-at e v n 1 (after e 0 l) m ls h (omega arith) j some few)
        ∙ ap (λ (k : ℕ). nat_le j k) sum
