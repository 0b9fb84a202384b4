-- The numbers of words and the codes of literals.
use Rattle.std.proofs.Common.{◌≡◌, ℕ, zero, suc, ◌+◌, ◌*◌, ◌/◌, ◌%◌, ◌≤◌, Bool, true, false, cond, ◌&&◌, ◌==◌, nat_lt, nat_le, List, [], ◌∷◌, ℤ, pos, negsuc, nat_abs, length, refl, sym, ◌∙◌, ap, arith, eqb-true}
use Rattle.std.specs.Str.{bytes_eq}
use Rattle.std.proofs.lemmas.Bool.{leb-true}
use Rattle.std.proofs.lemmas.Bool.Decides.{nat_tests}
use Rattle.std.proofs.lemmas.Slice.Eq.{bytes_eq-Decides}
use Rattle.mal_base.specs.Literals.{literal}
use Rattle.spec_text.specs.Numbers.{NumberWord, is_digit, is_numeral, value_of, magnitude_in, number_in, negated, number_of}
use Rattle.spec_text.specs.Numbers.NumberWord.{NotANumber, TooLarge, Number}
use Rattle.spec_text.proofs.Clean as clean
use Rattle.spec_dimacs.specs.Rows.{is_comment}
use Rattle.spec_dimacs.specs.Reading.{code_of}

-- the number that a word says, 0 where it says none
number_in_word : NumberWord → ℤ
number_in_word NotANumber = pos 0
number_in_word TooLarge = pos 0
number_in_word (Number z) = z

pub same_number : (x y : ℤ) → Number x ≡ Number y → x ≡ y
unfolding number_in_word
same_number x y e = ap number_in_word e

-- a magnitude is within its bound
magnitude_bound : (word : List ℕ) (v : ℕ) (z : ℤ) → magnitude_in word v ≡ Number z → nat_abs z ≤ v
magnitude_bound word v z e = by_tests (is_numeral word) (nat_le (value_of word) v) refl e
  where
    by_tests : (a b : Bool) → nat_le (value_of word) v ≡ b → cond a (cond b (Number (pos (value_of word))) TooLarge) NotANumber ≡ Number z → nat_abs z ≤ v
    by_tests false b t e = absurd (cc)
    by_tests true false t e = absurd (cc)
    by_tests true true t e =
        let low : value_of word ≤ v = leb-true (value_of word) v t in
        let same : z ≡ pos (value_of word) = sym (same_number (pos (value_of word)) z e) in
        rw same low

negated_bound : (x : NumberWord) (v : ℕ) → ((z : ℤ) → x ≡ Number z → nat_abs z ≤ v) → (y : ℤ) → negated x ≡ Number y → nat_abs y ≤ v
negated_bound NotANumber v all y e = absurd (cc)
negated_bound TooLarge v all y e = absurd (cc)
negated_bound (Number (pos zero)) v all y e = absurd (cc)
negated_bound (Number (pos (suc n))) v all y e =
    let low : nat_abs (pos (suc n)) ≤ v = all (pos (suc n)) refl in
    let same : y ≡ negsuc n = sym (same_number (negsuc n) y e) in
    rw same low
negated_bound (Number (negsuc n)) v all y e =
    let low : nat_abs (negsuc n) ≤ v = all (negsuc n) refl in
    let same : y ≡ pos (suc n) = sym (same_number (pos (suc n)) y e) in
    rw same low

-- a number that a word says is within its bound
pub number_bound : (word : List ℕ) (v : ℕ) (z : ℤ) → number_in word v ≡ Number z → nat_abs z ≤ v
number_bound [] v z e = absurd (cc)
number_bound (b ∷ bs) v z e = by_sign (b == 45) e
  where
    by_sign : (t : Bool) → cond t (negated (magnitude_in bs v)) (magnitude_in (b ∷ bs) v) ≡ Number z → nat_abs z ≤ v
    by_sign true e = negated_bound (magnitude_in bs v) v (λ y f. magnitude_bound bs v y f) z e
    by_sign false e = magnitude_bound (b ∷ bs) v z e

-- the number of the literal of a number
pub number_of-positive : (n : ℕ) → number_of (literal n true) ≡ pos n
number_of-positive n =
    let even : 2 * n % 2 ≡ 0 = omega arith in
    let test : (2 * n % 2 == 0) ≡ true = grind (arith, nat_tests) in
    let half : 2 * n / 2 ≡ n = omega arith in
    rw (test, half) refl

pub number_of-negative : (n : ℕ) → number_of (literal (suc n) false) ≡ negsuc n
number_of-negative n =
    let odd : (2 * suc n + 1) % 2 ≡ 1 = omega arith in
    let test : ((2 * suc n + 1) % 2 == 0) ≡ false = grind (arith, nat_tests) in
    let half : (2 * suc n + 1) / 2 ≡ suc n = omega arith in
    rw (test, half) refl

-- a literal's code is that of its number, which is not 0
same-code : (z : ℤ) → code_of z ≡ clean.code_of z
same-code (pos n) = omega arith
same-code (negsuc n) = omega arith

pub code_of-number_of : (code : ℕ) → 2 ≤ code → code_of (number_of code) ≡ code
code_of-number_of code h = same-code (number_of code) ∙ clean.code_of-number_of code h

-- a word that begins with neither a digit nor a minus sign is no number
and-false : (x : Bool) → (x && false) ≡ false
and-false true = refl
and-false false = refl

no_digit : (b : ℕ) (bs : List ℕ) (v : ℕ) → (b == 45) ≡ false → is_digit b ≡ false → number_in (b ∷ bs) v ≡ NotANumber
no_digit b bs v t d =
    let no : is_numeral (b ∷ bs) ≡ false = rw d (and-false (nat_lt 0 (suc (length bs)))) in
    rw (t, no) refl

-- a word that says a number begins no comment and is neither `p` nor `%`
pub number-no_comment : (word : List ℕ) (v : ℕ) (z : ℤ) → number_in word v ≡ Number z → is_comment word ≡ false
number-no_comment [] v z e = refl
number-no_comment (b ∷ bs) v z e = by_test (b == 99) refl
  where
    by_test : (t : Bool) → (b == 99) ≡ t → t ≡ false
    by_test false t = refl
    by_test true t =
        let p : b ≡ 99 = eqb-true b 99 t in
        let no : number_in (b ∷ bs) v ≡ NotANumber = no_digit b bs v (rw p refl) (rw p refl) in
        absurd (cc)

pub number-not_word : (word : List ℕ) (v : ℕ) (z : ℤ) (b : ℕ) → (b == 45) ≡ false → is_digit b ≡ false → number_in word v ≡ Number z → bytes_eq word (b ∷ []) ≡ false
number-not_word word v z b t d e = by_test (bytes_eq word (b ∷ [])) refl
  where
    by_test : (s : Bool) → bytes_eq word (b ∷ []) ≡ s → s ≡ false
    by_test false q = refl
    by_test true q =
        let p : word ≡ b ∷ [] = (bytes_eq-Decides word (b ∷ [])).0 q in
        let no : number_in (b ∷ []) v ≡ NotANumber = no_digit b [] v t d in
        let same : number_in word v ≡ number_in (b ∷ []) v = ap (λ (w : List ℕ). number_in w v) p in
        absurd (cc)
