-- A number that is written is read again.
use Rattle.std.proofs.Common.{◌≡◌, ℕ, suc, ◌<◌, ◌≤◌, ◌^◌, Bool, true, false, cond, ◌&&◌, ◌==◌, nat_lt, nat_le, List, [], ◌∷◌, length, fold, pos, negsuc, decimal, refl, ap, ap₂, ◌∙◌, arith}
use Rattle.std.specs.List.{list_all}
use Rattle.std.proofs.lemmas.Bool.{leb-true, le-leb, lt-ltb}
use Rattle.std.proofs.lemmas.Bool.Decides.{nat_tests}
use Rattle.std.proofs.lemmas.Fmt.{digits_decimal, digits_value-decimal, decimal_nonempty}
use Rattle.std.proofs.lemmas.Str.Parse.{IsDigitsTest, FoldsDigits, IsNumeralModel, numerals_by_fold}
use Rattle.spec_text.specs.Numbers.{is_digit, is_numeral, with_digit, value_of, magnitude_in, number_in, negated}
use Rattle.spec_text.specs.Numbers.NumberWord.{NotANumber, TooLarge, Number}
use Rattle.spec_text.specs.Laws.{NumbersReadAgain}

and_left : (a b : Bool) → (a && b) ≡ true → a ≡ true
and_left true b h = refl
and_left false b h = absurd (cc)

and_right : (a b : Bool) → (a && b) ≡ true → b ≡ true
and_right true b h = h
and_right false b h = absurd (cc)

and_both : (a b : Bool) → a ≡ true → b ≡ true → (a && b) ≡ true
and_both a b p q = rw (p, q) refl

-- words of digits and their values, as std tells them
tells : IsDigitsTest (λ ds. list_all is_digit ds ≡ true)
tells = record {
  empty = refl;
  parts = λ c cs h. (let d : is_digit c ≡ true = and_left (is_digit c) (list_all is_digit cs) h in (leb-true 48 c (and_left (nat_le 48 c) (nat_le c 57) d), leb-true c 57 (and_right (nat_le 48 c) (nat_le c 57) d)), and_right (is_digit c) (list_all is_digit cs) h);
  more = λ c cs k h. and_both _ _ (and_both _ _ (le-leb 48 c k.0) (le-leb c 57 k.1)) h;
}

folds : FoldsDigits (λ n ds. fold with_digit n ds)
folds = record { empty = λ n. refl; more = λ n c cs k. refl }

numerals : IsNumeralModel (λ ds. list_all is_digit ds ≡ true) (λ ds. fold with_digit 0 ds)
numerals = numerals_by_fold (λ ds. list_all is_digit ds ≡ true) tells (λ n ds. fold with_digit n ds) folds

pub value_of-decimal : (n : ℕ) → n < 2 ^ 64 → value_of (decimal n) ≡ n
value_of-decimal n h = digits_value-decimal numerals n h

pub is_numeral-decimal : (n : ℕ) → n < 2 ^ 64 → is_numeral (decimal n) ≡ true
is_numeral-decimal n h = and_both _ _ (lt-ltb 0 (length (decimal n)) (decimal_nonempty n h)) (digits_decimal numerals n h)

-- a magnitude within the bound is read again
magnitude_again : (n max : ℕ) → n ≤ max → max < 2 ^ 63 → magnitude_in (decimal n) max ≡ Number (pos n)
magnitude_again n max low bound =
    let wide : n < 2 ^ 64 = omega arith in
    ap₂ (λ (t : Bool) (m : ℕ). cond t (cond (nat_le m max) (Number (pos m)) TooLarge) NotANumber) (is_numeral-decimal n wide) (value_of-decimal n wide)
    ∙ ap (λ (t : Bool). cond t (Number (pos n)) TooLarge) (le-leb n max low)

-- a word of digits does not begin with a minus sign
no_minus : (word : List ℕ) (max : ℕ) → is_numeral word ≡ true → number_in word max ≡ magnitude_in word max
no_minus [] max h = refl
no_minus (b ∷ bs) max h =
    let d : is_digit b ≡ true = and_left (is_digit b) (list_all is_digit bs) (and_right (nat_lt 0 (length (b ∷ bs))) (list_all is_digit (b ∷ bs)) h) in
    let low : 48 ≤ b = leb-true 48 b (and_left (nat_le 48 b) (nat_le b 57) d) in
    let test : (b == 45) ≡ false = grind (arith, nat_tests) in
    ap (λ (t : Bool). cond t (negated (magnitude_in bs max)) (magnitude_in (b ∷ bs) max)) test

pub numbers_read_again : NumbersReadAgain
numbers_read_again (pos n) max low bound = no_minus (decimal n) max (is_numeral-decimal n (omega arith)) ∙ magnitude_again n max low bound
numbers_read_again (negsuc n) max low bound = ap negated (magnitude_again (suc n) max low bound)
