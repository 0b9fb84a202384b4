use Rattle.std.proofs.Common.{◌≡◌, ℕ, zero, suc, ◌+◌, ◌-◌, ◌*◌, ◌/◌, ◌≤◌, ◌<◌, true, false, ◌&&◌, nat_le, nat_lt, List, [], ◌∷◌, ◌++◌, length, Some, refl, ap, ◌∙◌, arith}
use Rattle.std.specs.List.{list_all}
use Rattle.std.proofs.lemmas.Bool.{and_parts, and_from, leb-true, le-leb, lt-ltb}
use Rattle.std.proofs.lemmas.List.Folds.{list_all-append}
use Rattle.std.proofs.Math.Nat.{mul-le-mul_right}
use Rattle.mal_base.specs.Literals.{literal}
use Rattle.mal_base.specs.Formulas.{is_within, is_clause_of}
use Rattle.spec_max.specs.Counter.{counted, starts, carries, adds, row, rows}
use Rattle.spec_max.specs.Laws.{CounterIsInForm, CostBelowIsWithin}
use Rattle.spec_max.proofs.Extending.{row-behind}

-- the variables of n rows stand after the others, n from row to row
counted-high : (v n i j : ℕ) → 1 ≤ i → i ≤ n → j ≤ n → counted v n i j ≤ v + n * n
counted-high v n i j low high few =
    let all : i * n ≤ n * n = mul-le-mul_right n high in
    let behind = row-behind v n i low in
    let last : v + (suc i - 1) * n ≡ v + i * n = same v n i in
    omega arith
  where
    same : (v n i : ℕ) → v + (suc i - 1) * n ≡ v + i * n
    same v n i = let less : suc i - 1 ≡ i = omega arith in ap (λ (m : ℕ). v + m * n) less

counted-low : (v n i j : ℕ) → 1 ≤ j → suc v ≤ counted v n i j
counted-low v n i j some = omega arith

counted-rises : (v n i j k : ℕ) → 1 ≤ i → 1 ≤ n → j ≤ k → counted v n i j < counted v n (suc i) k
counted-rises v n i j k low some less = let behind = row-behind v n i low in omega arith

half-plus : (x : ℕ) → 2 * x / 2 ≡ x
half-plus x = omega arith

half-minus : (x : ℕ) → (2 * x + 1) / 2 ≡ x
half-minus x = omega arith

-- a literal of a variable that is had
within-of : (w l : ℕ) → 1 ≤ l / 2 → l / 2 ≤ w → (nat_le 1 (l / 2) && nat_le (l / 2) w) ≡ true
within-of w l low high = and_from (nat_le 1 (l / 2)) (nat_le (l / 2) w) (le-leb 1 (l / 2) low) (le-leb (l / 2) w high)

-- clauses of two and of three literals that rise
two-in-form : (w l m : ℕ) → 1 ≤ l / 2 → l / 2 < m / 2 → m / 2 ≤ w → is_clause_of w (Some (l ∷ m ∷ [])) ≡ true
two-in-form w l m low less high =
    and_from _ (is_within w (l ∷ m ∷ []))
    (and_from (nat_lt (l / 2) (m / 2)) true (lt-ltb (l / 2) (m / 2) less) refl)
    (and_from (nat_le 1 (l / 2) && nat_le (l / 2) w) (is_within w (m ∷ [])) (within-of w l low (omega arith)) (and_from (nat_le 1 (m / 2) && nat_le (m / 2) w) true (within-of w m (omega arith) high) refl))

three-in-form : (w l m k : ℕ) → 1 ≤ l / 2 → l / 2 < m / 2 → m / 2 < k / 2 → k / 2 ≤ w → is_clause_of w (Some (l ∷ m ∷ k ∷ [])) ≡ true
three-in-form w l m k low less more high =
    and_from _ (is_within w (l ∷ m ∷ k ∷ []))
    (and_from (nat_lt (l / 2) (m / 2)) _ (lt-ltb (l / 2) (m / 2) less) (and_from (nat_lt (m / 2) (k / 2)) true (lt-ltb (m / 2) (k / 2) more) refl))
    (and_from (nat_le 1 (l / 2) && nat_le (l / 2) w) (is_within w (m ∷ k ∷ [])) (within-of w l low (omega arith))
    (and_from (nat_le 1 (m / 2) && nat_le (m / 2) w) (is_within w (k ∷ [])) (within-of w m (omega arith) (omega arith)) (and_from (nat_le 1 (k / 2) && nat_le (k / 2) w) true (within-of w k (omega arith) high) refl)))

-- a literal of the variables before the counter
pub record IsBefore (v l : ℕ) : Type 0 where
  pub low : 1 ≤ l / 2
  pub high : l / 2 ≤ v

starts-in-form : (v n i l : ℕ) → IsBefore v l → 1 ≤ i → i ≤ n → is_clause_of (v + n * n) (starts v n i l) ≡ true
starts-in-form v n i l b low high =
    let low_half = b.low in
    let high_half = b.high in
    let half = half-plus (counted v n i 1) in
    let behind = counted-low v n i 1 (omega arith) in
    let within = counted-high v n i 1 low high (omega arith) in
    two-in-form (v + n * n) l (2 * counted v n i 1) low_half (omega arith) (omega arith)

carries-in-form : (v n i j k : ℕ) → 1 ≤ i → suc i ≤ n → 1 ≤ j → j + k ≤ suc n → list_all (is_clause_of (v + n * n)) (carries v n i j k) ≡ true
carries-in-form v n i j zero first last low high = refl
carries-in-form v n i j (suc k) first last low high =
    let half = half-minus (counted v n i j) in
    let other = half-plus (counted v n (suc i) j) in
    let behind = counted-low v n i j low in
    let rising = counted-rises v n i j j first (omega arith) (omega arith) in
    let within = counted-high v n (suc i) j (omega arith) last (omega arith) in
    and_from (is_clause_of (v + n * n) (Some (literal (counted v n i j) false ∷ literal (counted v n (suc i) j) true ∷ []))) (list_all (is_clause_of (v + n * n)) (carries v n i (suc j) k))
    (two-in-form (v + n * n) (2 * counted v n i j + 1) (2 * counted v n (suc i) j) (omega arith) (omega arith) (omega arith))
    (carries-in-form v n i (suc j) k first last (omega arith) (omega arith))

adds-in-form : (v n i l j k : ℕ) → IsBefore v l → 1 ≤ i → suc i ≤ n → 1 ≤ j → suc (j + k) ≤ suc n → list_all (is_clause_of (v + n * n)) (adds v n i l j k) ≡ true
adds-in-form v n i l j zero b first last low high = refl
adds-in-form v n i l j (suc k) b first last low high =
    let low_half = b.low in
    let high_half = b.high in
    let half = half-minus (counted v n i j) in
    let other = half-plus (counted v n (suc i) (suc j)) in
    let behind = counted-low v n i j low in
    let rising = counted-rises v n i j (suc j) first (omega arith) (omega arith) in
    let within = counted-high v n (suc i) (suc j) (omega arith) last (omega arith) in
    and_from (is_clause_of (v + n * n) (Some (l ∷ literal (counted v n i j) false ∷ literal (counted v n (suc i) (suc j)) true ∷ []))) (list_all (is_clause_of (v + n * n)) (adds v n i l (suc j) k))
    (three-in-form (v + n * n) l (2 * counted v n i j + 1) (2 * counted v n (suc i) (suc j)) low_half (omega arith) (omega arith) (omega arith))
    (adds-in-form v n i l (suc j) k b first last (omega arith) (omega arith))

row-in-form : (v n i l : ℕ) → IsBefore v l → 1 ≤ i → suc i ≤ n → list_all (is_clause_of (v + n * n)) (row v n i l) ≡ true
row-in-form v n i l b first last =
    and_from (is_clause_of (v + n * n) (starts v n (suc i) l)) (list_all (is_clause_of (v + n * n)) (carries v n i 1 n ++ adds v n i l 1 (n - 1)))
    (starts-in-form v n (suc i) l b (omega arith) last)
    (list_all-append (is_clause_of (v + n * n)) (carries v n i 1 n) (adds v n i l 1 (n - 1))
    ∙ and_from (list_all (is_clause_of (v + n * n)) (carries v n i 1 n)) (list_all (is_clause_of (v + n * n)) (adds v n i l 1 (n - 1)))
    (carries-in-form v n i 1 n first last (omega arith) (omega arith))
    (adds-in-form v n i l 1 (n - 1) b first last (omega arith) (omega arith)))

before-parts : (v l : ℕ) (ls : List ℕ) → is_within v (l ∷ ls) ≡ true → IsBefore v l × (is_within v ls ≡ true)
before-parts v l ls h =
    let both = and_parts (nat_le 1 (l / 2) && nat_le (l / 2) v) (is_within v ls) h in
    let here = and_parts (nat_le 1 (l / 2)) (nat_le (l / 2) v) both.0 in
    (record { low = leb-true 1 (l / 2) here.0; high = leb-true (l / 2) v here.1 }, both.1)

rows-in-form : (v n i : ℕ) (ls : List ℕ) → is_within v ls ≡ true → 1 ≤ i → i + length ls ≤ n → list_all (is_clause_of (v + n * n)) (rows v n i ls) ≡ true
rows-in-form v n i [] h first last = refl
rows-in-form v n i (l ∷ ls) h first last =
    let parts = before-parts v l ls h in
    list_all-append (is_clause_of (v + n * n)) (row v n i l) (rows v n (suc i) ls)
    ∙ and_from (list_all (is_clause_of (v + n * n)) (row v n i l)) (list_all (is_clause_of (v + n * n)) (rows v n (suc i) ls))
    (row-in-form v n i l parts.0 first (omega arith))
    (rows-in-form v n (suc i) ls parts.1 (omega arith) (omega arith))

pub counter_in_form : CounterIsInForm
counter_in_form v [] h = refl
counter_in_form v (l ∷ ls) h =
    let parts = before-parts v l ls h in
    let n : ℕ = suc (length ls) in
    and_from (is_clause_of (v + n * n) (starts v n 1 l)) (list_all (is_clause_of (v + n * n)) (rows v n 1 ls))
    (starts-in-form v n 1 l parts.0 (omega arith) (omega arith))
    (rows-in-form v n 1 ls parts.1 (omega arith) (omega arith))

pub cost_below_within : CostBelowIsWithin
cost_below_within v softs c low high =
    let n : ℕ = length softs in
    let half = half-minus (counted v n n c) in
    let behind = counted-low v n n c low in
    let within = counted-high v n n c (omega arith) (omega arith) high in
    and_from (nat_le 1 ((2 * counted v n n c + 1) / 2) && nat_le ((2 * counted v n n c + 1) / 2) (v + n * n)) true (within-of (v + n * n) (2 * counted v n n c + 1) (omega arith) (omega arith)) refl
