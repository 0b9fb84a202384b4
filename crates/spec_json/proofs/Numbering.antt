-- Numbers and the literals that they stand for.
use Rattle.std.proofs.Common.{◌≡◌, ℕ, zero, suc, ◌/◌, ◌%◌, ◌≤◌, Bool, true, false, cond, ◌&&◌, ◌||◌, ◌==◌, nat_lt, nat_le, int_lt, List, [], ◌∷◌, map, ℤ, pos, negsuc, neg_ℤ, nat_abs, refl, sym, ap, ap₂, ◌∙◌, arith}
use Rattle.std.specs.List.{list_any}
use Rattle.std.proofs.lemmas.Bool.{leb-true, le-leb}
use Rattle.std.proofs.lemmas.Bool.Decides.{nat_tests}
use Rattle.mal_base.specs.Formulas.{is_within}
use Rattle.mal_base.proofs.Sorting.{and-left, and-right, and-both}
use Rattle.spec_text.specs.Numbers.{number_of}
use Rattle.spec_dimacs.specs.Reading.{code_of}
use Rattle.spec_dimacs.proofs.Numbers.{code_of-number_of, number_of-positive, number_of-negative}
use Rattle.spec_json.specs.Numbers.{is_above, is_none}
use Rattle.spec_json.specs.Reading.{literals}

pub or-none : (a b : Bool) → (a || b) ≡ false → (a ≡ false) × (b ≡ false)
or-none true b h = absurd (cc)
or-none false b h = (refl, h)

pub none-of : (a b : Bool) → a ≡ false → b ≡ false → (a || b) ≡ false
none-of true b h k = absurd (cc)
none-of false b h k = k

-- ---- from numbers to literals

numbered : (z : ℤ) → is_none z ≡ false → number_of (code_of z) ≡ z
numbered (pos zero) h = absurd (cc)
numbered (pos (suc n)) h = number_of-positive (suc n)
numbered (negsuc n) h = number_of-negative n

magnitude : (z : ℤ) → code_of z / 2 ≡ nat_abs z
magnitude (pos n) = omega arith
magnitude (negsuc n) = omega arith

some-number : (n : ℕ) → (n == 0) ≡ false → 1 ≤ n
some-number zero h = absurd (cc)
some-number (suc n) h = omega arith

pub not-above : (v n : ℕ) → nat_lt v n ≡ false → n ≤ v
not-above v n h = grind (arith, nat_tests)

within-one : (v : ℕ) (z : ℤ) → is_none z ≡ false → is_above v z ≡ false → (nat_le 1 (code_of z / 2) && nat_le (code_of z / 2) v) ≡ true
within-one v z h k =
    ap (λ (n : ℕ). nat_le 1 n && nat_le n v) (magnitude z)
    ∙ and-both _ _ (le-leb 1 (nat_abs z) (some-number (nat_abs z) h)) (le-leb (nat_abs z) v (not-above v (nat_abs z) k))

-- numbers that are not 0 and not above a variable stand for literals of the variables up to it
pub stand : (v : ℕ) (zs : List ℤ) → list_any is_none zs ≡ false → list_any (is_above v) zs ≡ false → (zs ≡ map number_of (literals zs)) × (is_within v (literals zs) ≡ true)
stand v [] h k = (refl, refl)
stand v (z ∷ zs) h k =
    let a = or-none (is_none z) (list_any is_none zs) h in
    let b = or-none (is_above v z) (list_any (is_above v) zs) k in
    let rest = stand v zs a.1 b.1 in
    (ap₂ (λ (x : ℤ) (xs : List ℤ). x ∷ xs) (sym (numbered z a.0)) rest.0, and-both _ _ (within-one v z a.0 b.0) rest.1)

-- ---- from literals to numbers

negative-size : (n : ℕ) → nat_abs (neg_ℤ (pos n)) ≡ n
negative-size zero = refl
negative-size (suc n) = refl

size-by : (b : Bool) (n : ℕ) → nat_abs (cond b (pos n) (neg_ℤ (pos n))) ≡ n
size-by true n = refl
size-by false n = negative-size n

size : (l : ℕ) → nat_abs (number_of l) ≡ l / 2
size l = size-by (l % 2 == 0) (l / 2)

-- the numbers of literals of the variables up to this one
pub record Stands (v : ℕ) (lits : List ℕ) : Type 0 where
  pub some : list_any is_none (map number_of lits) ≡ false
  pub low : list_any (is_above v) (map number_of lits) ≡ false
  pub again : literals (map number_of lits) ≡ lits

some-test : (n : ℕ) → 1 ≤ n → (n == 0) ≡ false
some-test n h = grind (arith, nat_tests)

pub low-test : (v n : ℕ) → n ≤ v → nat_lt v n ≡ false
low-test v n h = grind (arith, nat_tests)

pub stands : (v : ℕ) (lits : List ℕ) → is_within v lits ≡ true → Stands v lits
stands v [] h = record { some = refl; low = refl; again = refl }
stands v (l ∷ ls) h =
    let own : (nat_le 1 (l / 2) && nat_le (l / 2) v) ≡ true = and-left _ _ h in
    let some : 1 ≤ l / 2 = leb-true 1 (l / 2) (and-left _ _ own) in
    let low : l / 2 ≤ v = leb-true (l / 2) v (and-right (nat_le 1 (l / 2)) _ own) in
    let two : 2 ≤ l = omega arith in
    let rest = stands v ls (and-right (nat_le 1 (l / 2) && nat_le (l / 2) v) _ h) in
    record {
      some = none-of _ _ (ap (λ (n : ℕ). n == 0) (size l) ∙ some-test (l / 2) some) rest.some;
      low = none-of _ _ (ap (λ (n : ℕ). nat_lt v n) (size l) ∙ low-test v (l / 2) low) rest.low;
      again = ap₂ (λ (x : ℕ) (xs : List ℕ). x ∷ xs) (code_of-number_of l two) rest.again;
    }

-- a number that is not below 0
pub not-negative : (z : ℤ) → int_lt z (pos 0) ≡ false → z ≡ pos (nat_abs z)
not-negative (pos n) h = refl
not-negative (negsuc n) h = absurd (cc)

pub not-below : (n : ℕ) → int_lt (pos n) (pos 0) ≡ false
not-below n = low-test n 0 (omega arith)
