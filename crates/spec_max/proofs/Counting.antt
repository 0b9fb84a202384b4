use Rattle.std.proofs.Common.{◌≡◌, ℕ, zero, suc, ◌+◌, ◌-◌, ◌*◌, ◌≤◌, ◌<◌, Bool, true, false, cond, not, ◌||◌, nat_le, List, [], ◌∷◌, ◌++◌, length, take, Some, refl, sym, subst, ◌∙◌, arith}
use Rattle.std.proofs.lemmas.Bool.{and_parts, both_ways, not_from_true, leb-true, leb-false}
use Rattle.std.proofs.lemmas.List.Folds.{list_all-append}
use Rattle.std.proofs.lemmas.List.Sums.{count_by-le-length}
use Rattle.mal_base.specs.Literals.{literal}
use Rattle.spec_logic.specs.Logic.{value_of, is_true_in, satisfies, satisfies_clause}
use Rattle.spec_max.specs.Counter.{counted, starts, carries, adds, row, rows, counter}
use Rattle.spec_max.specs.Cost.{cost, cost_below}
use Rattle.spec_max.specs.Laws.{CostIsCounted, CostIsBelow}
use Rattle.spec_max.proofs.Rows.{after, true-plus, true-minus}
use Rattle.spec_max.proofs.Totals.{total, total-cost, take-whole, take-less}

-- row i has true variables for the numbers up to a count
abbrev pub AtLeast : List Bool → ℕ → ℕ → ℕ → ℕ → Type 0
AtLeast e v n i c = (j : ℕ) → 1 ≤ j → j ≤ n → j ≤ c → value_of e (counted v n i j) ≡ true

carried : (x y b : Bool) → x ≡ not b → (x || (y || false)) ≡ true → b ≡ true → y ≡ true
carried x true b e h t = refl
carried false false b e h t = h
carried true false true e h t = absurd (cc)
carried true false false e h t = t

added : (x y z b : Bool) → x ≡ false → y ≡ not b → (x || (y || (z || false))) ≡ true → b ≡ true → z ≡ true
added true y z b p q h t = absurd (cc)
added false y z b p q h t = carried y z b q h t

pub carries-say : (e : List Bool) (v n i j k m : ℕ) → satisfies e (carries v n i j k) ≡ true → m < k → value_of e (counted v n i (j + m)) ≡ true → value_of e (counted v n (suc i) (j + m)) ≡ true
carries-say e v n i j zero m h high t = absurd (omega arith)
carries-say e v n i j (suc k) zero h high t =
    let same : j + zero ≡ j = omega arith in
    let both = and_parts (satisfies_clause e (Some (literal (counted v n i j) false ∷ literal (counted v n (suc i) j) true ∷ []))) (satisfies e (carries v n i (suc j) k)) h in
    subst (λ (x : ℕ). value_of e (counted v n (suc i) x) ≡ true) (sym same)
    (sym (true-plus e (counted v n (suc i) j)) ∙ carried (is_true_in e (2 * counted v n i j + 1)) (is_true_in e (2 * counted v n (suc i) j)) (value_of e (counted v n i j)) (true-minus e (counted v n i j)) both.0 (subst (λ (x : ℕ). value_of e (counted v n i x) ≡ true) same t))
carries-say e v n i j (suc k) (suc m) h high t =
    let both = and_parts (satisfies_clause e (Some (literal (counted v n i j) false ∷ literal (counted v n (suc i) j) true ∷ []))) (satisfies e (carries v n i (suc j) k)) h in
    let same : j + suc m ≡ suc j + m = omega arith in
    subst (λ (x : ℕ). value_of e (counted v n (suc i) x) ≡ true) (sym same) (carries-say e v n i (suc j) k m both.1 (omega arith) (subst (λ (x : ℕ). value_of e (counted v n i x) ≡ true) same t))

pub adds-say : (e : List Bool) (v n i l j k m : ℕ) → satisfies e (adds v n i l j k) ≡ true → is_true_in e l ≡ false → m < k → value_of e (counted v n i (j + m)) ≡ true → value_of e (counted v n (suc i) (suc (j + m))) ≡ true
adds-say e v n i l j zero m h off high t = absurd (omega arith)
adds-say e v n i l j (suc k) zero h off high t =
    let same : j + zero ≡ j = omega arith in
    let both = and_parts (satisfies_clause e (Some (l ∷ literal (counted v n i j) false ∷ literal (counted v n (suc i) (suc j)) true ∷ []))) (satisfies e (adds v n i l (suc j) k)) h in
    subst (λ (x : ℕ). value_of e (counted v n (suc i) (suc x)) ≡ true) (sym same)
    (sym (true-plus e (counted v n (suc i) (suc j))) ∙ added (is_true_in e l) (is_true_in e (2 * counted v n i j + 1)) (is_true_in e (2 * counted v n (suc i) (suc j))) (value_of e (counted v n i j)) off (true-minus e (counted v n i j)) both.0 (subst (λ (x : ℕ). value_of e (counted v n i x) ≡ true) same t))
adds-say e v n i l j (suc k) (suc m) h off high t =
    let both = and_parts (satisfies_clause e (Some (l ∷ literal (counted v n i j) false ∷ literal (counted v n (suc i) (suc j)) true ∷ []))) (satisfies e (adds v n i l (suc j) k)) h in
    let same : j + suc m ≡ suc j + m = omega arith in
    subst (λ (x : ℕ). value_of e (counted v n (suc i) (suc x)) ≡ true) (sym same) (adds-say e v n i l (suc j) k m both.1 off (omega arith) (subst (λ (x : ℕ). value_of e (counted v n i x) ≡ true) same t))

starts-say : (e : List Bool) (v n i l : ℕ) → satisfies_clause e (starts v n i l) ≡ true → is_true_in e l ≡ false → value_of e (counted v n i 1) ≡ true
starts-say e v n i l h off = sym (true-plus e (counted v n i 1)) ∙ second (is_true_in e l) (is_true_in e (2 * counted v n i 1)) off h
  where
    second : (x y : Bool) → x ≡ false → (x || (y || false)) ≡ true → y ≡ true
    second true y p q = absurd (cc)
    second false true p q = refl
    second false false p q = q

-- a row counts on
pub row-says : (e : List Bool) (v n i c l : ℕ) → satisfies e (row v n i l) ≡ true → AtLeast e v n i c → AtLeast e v n (suc i) (after e c l)
row-says e v n i c l h s j low high few =
    let parts = and_parts (satisfies_clause e (starts v n (suc i) l)) (satisfies e (carries v n i 1 n ++ adds v n i l 1 (n - 1))) h in
    let two = and_parts (satisfies e (carries v n i 1 n)) (satisfies e (adds v n i l 1 (n - 1))) (sym (list_all-append (satisfies_clause e) (carries v n i 1 n) (adds v n i l 1 (n - 1))) ∙ parts.1) in
    by_value (is_true_in e l) refl j low high few parts.0 two.0 two.1
  where
    kept : (j : ℕ) → 1 ≤ j → j ≤ n → j ≤ c → satisfies e (carries v n i 1 n) ≡ true → value_of e (counted v n (suc i) j) ≡ true
    kept zero low high few carry = absurd (omega arith)
    kept (suc m) low high few carry =
        let same : 1 + m ≡ suc m = omega arith in
        subst (λ (x : ℕ). value_of e (counted v n (suc i) x) ≡ true) same (carries-say e v n i 1 n m carry (omega arith) (subst (λ (x : ℕ). value_of e (counted v n i x) ≡ true) (sym same) (s (suc m) low high few)))

    more : (j : ℕ) → 1 ≤ j → j ≤ n → j ≤ suc c → is_true_in e l ≡ false → satisfies_clause e (starts v n (suc i) l) ≡ true → satisfies e (adds v n i l 1 (n - 1)) ≡ true → value_of e (counted v n (suc i) j) ≡ true
    more zero low high few off start count = absurd (omega arith)
    more (suc zero) low high few off start count = starts-say e v n (suc i) l start off
    more (suc (suc m)) low high few off start count =
        let same : 1 + m ≡ suc m = omega arith in
        subst (λ (x : ℕ). value_of e (counted v n (suc i) (suc x)) ≡ true) same (adds-say e v n i l 1 (n - 1) m count off (omega arith) (subst (λ (x : ℕ). value_of e (counted v n i x) ≡ true) (sym same) (s (suc m) (omega arith) (omega arith) (omega arith))))

    by_value : (b : Bool) → is_true_in e l ≡ b → (j : ℕ) → 1 ≤ j → j ≤ n → j ≤ cond b c (suc c) → satisfies_clause e (starts v n (suc i) l) ≡ true → satisfies e (carries v n i 1 n) ≡ true → satisfies e (adds v n i l 1 (n - 1)) ≡ true → value_of e (counted v n (suc i) j) ≡ true
    by_value true q j low high few start carry count = kept j low high few carry
    by_value false q j low high few start carry count = more j low high few q start count

-- the row after so many literals more has counted them
pub rows-say : (e : List Bool) (v n i c m : ℕ) (ls : List ℕ) → satisfies e (rows v n i ls) ≡ true → AtLeast e v n i c → m ≤ length ls → AtLeast e v n (i + m) (total e c (take m ls))
rows-say e v n i c zero ls h s few = let same : i ≡ i + zero = omega arith in subst (λ (k : ℕ). AtLeast e v n k c) same s
rows-say e v n i c (suc m) [] h s few = absurd (omega arith)
rows-say e v n i c (suc m) (l ∷ ls) h s few =
    let two = and_parts (satisfies e (row v n i l)) (satisfies e (rows v n (suc i) ls)) (sym (list_all-append (satisfies_clause e) (row v n i l) (rows v n (suc i) ls)) ∙ h) in
    let same : suc i + m ≡ i + suc m = omega arith in
    subst (λ (k : ℕ). AtLeast e v n k (total e (after e c l) (take m ls))) same (rows-say e v n (suc i) (after e c l) m ls two.1 (row-says e v n i c l two.0 s) (omega arith))

-- the first row counts the first literal
first-says : (e : List Bool) (v n i l : ℕ) → satisfies_clause e (starts v n i l) ≡ true → AtLeast e v n i (after e 0 l)
first-says e v n i l h = by_value (is_true_in e l) refl
  where
    by_value : (b : Bool) → is_true_in e l ≡ b → AtLeast e v n i (cond b 0 1)
    by_value true q j low high few = absurd (omega arith)
    by_value false q zero low high few = absurd (omega arith)
    by_value false q (suc zero) low high few = starts-say e v n i l h q
    by_value false q (suc (suc j)) low high few = absurd (omega arith)

pub cost_is_counted : CostIsCounted
cost_is_counted v [] e i j h first last low few = absurd (omega arith)
cost_is_counted v (l ∷ ls) e zero j h first last low few = absurd (omega arith)
cost_is_counted v (l ∷ ls) e (suc m) j h first last low few =
    let n : ℕ = suc (length ls) in
    let both = and_parts (satisfies_clause e (starts v n 1 l)) (satisfies e (rows v n 1 ls)) h in
    let says = rows-say e v n 1 (after e 0 l) m ls both.1 (first-says e v n 1 l both.0) (omega arith) in
    let one : 1 + m ≡ suc m = omega arith in
    let front : List ℕ = take (suc m) (l ∷ ls) in
    let sum : total e 0 front ≡ cost front e = total-cost e front in
    let bound : cost front e ≤ length front = count_by-le-length (λ x. not (is_true_in e x)) front in
    let short : length front ≤ n = take-less (suc m) (l ∷ ls) in
    subst (λ (k : ℕ). value_of e (counted v n k j) ≡ true) one (says j low (omega arith) (subst (λ (k : ℕ). j ≤ k) (sym sum) few))

-- a cost that is not below a number from 1 on makes its output true
pub output-true : (v : ℕ) (softs : List ℕ) (e : List Bool) (c : ℕ) → satisfies e (counter v softs) ≡ true → 1 ≤ c → c ≤ cost softs e → value_of e (counted v (length softs) (length softs) c) ≡ true
output-true v [] e c h low few = absurd (omega arith)
output-true v (l ∷ ls) e c h low few = cost_is_counted v (l ∷ ls) e (length (l ∷ ls)) c h (omega arith) (omega arith) low (subst (λ (xs : List ℕ). c ≤ cost xs e) (sym (take-whole (l ∷ ls))) few)

pub cost_is_below : CostIsBelow
cost_is_below v softs e c h low off = by_order (nat_le c (cost softs e)) refl
  where
    by_order : (b : Bool) → nat_le c (cost softs e) ≡ b → cost softs e < c
    by_order false q = leb-false c (cost softs e) q
    by_order true q =
        let on : value_of e (counted v (length softs) (length softs) c) ≡ true = output-true v softs e c h low (leb-true c (cost softs e) q) in
        absurd (both_ways (is_true_in e (cost_below v softs c)) (true-minus e (counted v (length softs) (length softs) c) ∙ not_from_true (value_of e (counted v (length softs) (length softs) c)) on) off)
