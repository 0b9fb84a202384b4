-- Written numbers and literals are clean words, and differ where the numbers do.
use Rattle.std.proofs.Common.{◌≡◌, ◌≢◌, ℕ, zero, suc, ◌+◌, ◌/◌, ◌%◌, ◌<◌, ◌≤◌, ◌^◌, Bool, true, false, cond, ◌==◌, List, [], ◌∷◌, length, ℤ, pos, negsuc, neg_ℤ, arith, refl, lit≤, eqb-true, zero-lt-suc}
use Rattle.std.specs.Fmt.{digits, digits_onto, digit_glyph, signed_decimal, decimal}
use Rattle.std.specs.List.{AllByRecursion}
use Rattle.std.proofs.lemmas.Fmt.{decimal_injective, signed_decimal_injective}
use Rattle.std.proofs.lemmas.Bool.Decides.{nat_tests}
use Rattle.spec_text.specs.Lines.{IsClean}
use Rattle.spec_text.specs.Numbers.{number_of}
use Rattle.spec_text.specs.Laws.{DecimalsAreClean, LiteralsAreClean, DecimalsDiffer, LiteralsDiffer}
use lib.Signed.{mag}

-- a byte of a written number is above the blanks
glyph_at_least : (d : ℕ) → 33 ≤ digit_glyph false d
glyph_at_least d = grind (arith, nat_tests)

-- digits before a clean word make a clean word
digits_onto_clean : (k n : ℕ) (acc : List ℕ) → IsClean acc → IsClean (digits_onto k 10 false n acc)
digits_onto_clean zero n acc h = h
digits_onto_clean (suc k) n acc h = last (n / 10 == 0) (more, h.1) (digits_onto_clean k (n / 10) (digit_glyph false (n % 10) ∷ acc) (zero-lt-suc (length acc), (glyph_at_least (n % 10), h.1)))
  where
    more : 0 < length (digit_glyph false (n % 10) ∷ acc)
    more = omega arith

    last : (b : Bool) → (0 < length (digit_glyph false (n % 10) ∷ acc)) × AllByRecursion (λ b. 33 ≤ b) acc → IsClean (digits_onto k 10 false (n / 10) (digit_glyph false (n % 10) ∷ acc)) → IsClean (cond b (digit_glyph false (n % 10) ∷ acc) (digits_onto k 10 false (n / 10) (digit_glyph false (n % 10) ∷ acc)))
    last true (p, q) r = (p, (glyph_at_least (n % 10), q))
    last false (p, q) r = r

pub decimals_are_clean : DecimalsAreClean
unfolding digits
decimals_are_clean n = first (n / 10 == 0)
  where
    one : IsClean (digit_glyph false (n % 10) ∷ [])
    one = (zero-lt-suc 0, (glyph_at_least (n % 10), tt))

    first : (b : Bool) → IsClean (cond b (digit_glyph false (n % 10) ∷ []) (digits_onto 63 10 false (n / 10) (digit_glyph false (n % 10) ∷ [])))
    first true = one
    first false = digits_onto_clean 63 (n / 10) (digit_glyph false (n % 10) ∷ []) one

signed_decimals_are_clean : (z : ℤ) → IsClean (signed_decimal z)
signed_decimals_are_clean (pos n) = decimals_are_clean n
signed_decimals_are_clean (negsuc n) = (zero-lt-suc (length (decimal (suc n))), (lit≤ tt, (decimals_are_clean (suc n)).1))

pub literals_are_clean : LiteralsAreClean
literals_are_clean code = signed_decimals_are_clean (number_of code)

pub decimals_differ : DecimalsDiffer
decimals_differ m n = decimal_injective m n

-- the code that a number stands for
abbrev pub code_of : ℤ → ℕ
code_of (pos n) = n + n
code_of (negsuc n) = n + n + 3

pub code_of-number_of : (code : ℕ) → 2 ≤ code → code_of (number_of code) ≡ code
code_of-number_of code h = by_sign (code % 2 == 0) refl (code / 2) refl
  where
    by_sign : (b : Bool) → (code % 2 == 0) ≡ b → (v : ℕ) → code / 2 ≡ v → code_of (cond b (pos v) (neg_ℤ (pos v))) ≡ code
    by_sign true e v f = let g : code % 2 ≡ 0 = eqb-true (code % 2) 0 e in omega arith
    by_sign false e zero f = absurd (omega arith)
    by_sign false e (suc v) f = let g : code % 2 ≢ 0 = λ q. grind (arith, nat_tests) in omega arith

mag-number_of : (code : ℕ) → code < 2 ^ 64 → mag (number_of code) < 2 ^ 63
mag-number_of code h = by_sign (code % 2 == 0) (code / 2) (omega arith)
  where
    by_sign : (b : Bool) (v : ℕ) → v < 2 ^ 63 → mag (cond b (pos v) (neg_ℤ (pos v))) < 2 ^ 63
    by_sign true v f = f
    by_sign false zero f = f
    by_sign false (suc v) f = omega arith

pub literals_differ : LiteralsDiffer
literals_differ a b low_a low_b high_a high_b e =
    let same : number_of a ≡ number_of b = signed_decimal_injective (number_of a) (number_of b) (mag-number_of a high_a) (mag-number_of b high_b) e in
    cc (code_of-number_of a low_a, code_of-number_of b low_b)
