-- Words of numbers and literals before an end tell them.
use Rattle.std.proofs.Common.{◌≡◌, ℕ, zero, suc, ◌/◌, ◌%◌, ◌<◌, ◌≤◌, ◌^◌, Bool, true, false, cond, eqb, List, [], ◌∷◌, ◌++◌, map, codes, pos, neg_ℤ, refl, sym, ap, ap₂, ◌∙◌, arith}
use Rattle.std.specs.Prelude.{nat_abs}
use Rattle.std.specs.List.{AllByRecursion}
use Rattle.mal_base.specs.Limits.{greatest_variable}
use Rattle.mal_base.specs.Literals.{IsLiteral}
use Rattle.mal_base.specs.Profiles.{number}
use Rattle.mal_base.specs.declared.profile.Profile.{Profile}
use Rattle.spec_text.specs.Asks.{is_first, profile_words}
use Rattle.spec_text.specs.Lines.{IsClean, AreClean}
use Rattle.spec_text.specs.Numbers.{decimal_word, literal_word, number_in, number_of}
use Rattle.spec_text.specs.Numbers.NumberWord.{Number}
use Rattle.spec_text.proofs.Asked.{first-is, number-bound, same-profile}
use Rattle.spec_text.proofs.Clean.{code_of, code_of-number_of, decimals_are_clean, decimals_differ, literals_are_clean, literals_differ}
use Rattle.spec_text.proofs.Numerals.{numbers_read_again}

-- the parts of a list
pub head-same : {X : Type 0} (x y : X) (xs ys : List X) → x ∷ xs ≡ y ∷ ys → x ≡ y
head-same x y xs ys e = cc

pub tail-same : {X : Type 0} (x y : X) (xs ys : List X) → x ∷ xs ≡ y ∷ ys → xs ≡ ys
tail-same x y xs ys e = cc

-- two literals that are written alike are equal
pub literal-same : (a b : ℕ) → IsLiteral a → IsLiteral b → literal_word a ≡ literal_word b → a ≡ b
literal-same a b h k e = literals_differ a b h.0 k.0 (omega (arith, h.1)) (omega (arith, k.1)) e

-- and none is written as 0
literal-magnitude : (l : ℕ) → IsLiteral l → nat_abs (number_of l) ≤ greatest_variable
literal-magnitude l h = by_sign (eqb (l % 2) 0) (l / 2) (omega (arith, h.1))
  where
    by_sign : (b : Bool) (v : ℕ) → v ≤ greatest_variable → nat_abs (cond b (pos v) (neg_ℤ (pos v))) ≤ greatest_variable
    by_sign true v k = k
    by_sign false zero k = k
    by_sign false (suc v) k = k

pub literal-some : (l : ℕ) → IsLiteral l → literal_word l ≡ codes "0" → ⊥
literal-some l h e =
    let read : number_in (literal_word l) greatest_variable ≡ Number (number_of l) = numbers_read_again (number_of l) greatest_variable (literal-magnitude l h) (omega arith) in
    let zeros : number_in (literal_word l) greatest_variable ≡ Number (pos 0) = ap (λ (w : List ℕ). number_in w greatest_variable) e in
    let same : Number (number_of l) ≡ Number (pos 0) = sym read ∙ zeros in
    let none : number_of l ≡ pos 0 = cc in
    let code : l ≡ 0 = sym (code_of-number_of l h.0) ∙ ap code_of none in
    absurd (omega (arith, code, h.0))

-- numbers of 64 bits that are written alike are equal
pub numbers-same : (ms ns : List ℕ) → AllByRecursion (λ n. n < 2 ^ 64) ms → AllByRecursion (λ n. n < 2 ^ 64) ns → map decimal_word ms ≡ map decimal_word ns → ms ≡ ns
numbers-same [] [] h k e = refl
numbers-same [] (n ∷ ns) h k e = absurd (cc)
numbers-same (m ∷ ms) [] h k e = absurd (cc)
numbers-same (m ∷ ms) (n ∷ ns) h k e =
    let one : m ≡ n = decimals_differ m n h.0 k.0 (head-same (decimal_word m) (decimal_word n) (map decimal_word ms) (map decimal_word ns) e) in
    let more : ms ≡ ns = numbers-same ms ns h.1 k.1 (tail-same (decimal_word m) (decimal_word n) (map decimal_word ms) (map decimal_word ns) e) in
    ap₂ (λ (x : ℕ) (xs : List ℕ). x ∷ xs) one more

-- so are literals before a 0, and what follows it
pub literals-same : (ls ms : List ℕ) (rest others : List (List ℕ)) → AllByRecursion IsLiteral ls → AllByRecursion IsLiteral ms → map literal_word ls ++ codes "0" ∷ rest ≡ map literal_word ms ++ codes "0" ∷ others → (ls ≡ ms) × (rest ≡ others)
literals-same [] [] rest others h k e = (refl, tail-same (codes "0") (codes "0") rest others e)
literals-same [] (m ∷ ms) rest others h k e = absurd (literal-some m k.0 (sym (head-same (codes "0") (literal_word m) rest (map literal_word ms ++ codes "0" ∷ others) e)))
literals-same (l ∷ ls) [] rest others h k e = absurd (literal-some l h.0 (head-same (literal_word l) (codes "0") (map literal_word ls ++ codes "0" ∷ rest) others e))
literals-same (l ∷ ls) (m ∷ ms) rest others h k e =
    let one : l ≡ m = literal-same l m h.0 k.0 (head-same (literal_word l) (literal_word m) (map literal_word ls ++ codes "0" ∷ rest) (map literal_word ms ++ codes "0" ∷ others) e) in
    let more = literals-same ls ms rest others h.1 k.1 (tail-same (literal_word l) (literal_word m) (map literal_word ls ++ codes "0" ∷ rest) (map literal_word ms ++ codes "0" ∷ others) e) in
    (ap₂ (λ (x : ℕ) (xs : List ℕ). x ∷ xs) one more.0, more.1)

-- a profile is told by its words
pub profiles-same : (p q : Profile) → profile_words p ≡ profile_words q → p ≡ q
profiles-same p q e = by_tests (is_first p) (is_first q) refl refl e
  where
    wide : (r : Profile) → number r < 2 ^ 64
    wide r = omega (arith, number-bound r)

    by_tests : (a b : Bool) → is_first p ≡ a → is_first q ≡ b → cond a [] (decimal_word (number p) ∷ []) ≡ cond b [] (decimal_word (number q) ∷ []) → p ≡ q
    by_tests true true x y e = first-is p x ∙ sym (first-is q y)
    by_tests true false x y e = absurd (cc)
    by_tests false true x y e = absurd (cc)
    by_tests false false x y e =
        let same : number p ≡ number q = decimals_differ (number p) (number q) (wide p) (wide q) (head-same (decimal_word (number p)) (decimal_word (number q)) [] [] e) in
        same-profile p q (ap (λ (n : ℕ). Number (pos n)) same)

-- 0 is a clean word, and so are words of literals and numbers with others after them
pub zero-clean : IsClean (codes "0")
zero-clean = (omega arith, (omega arith, tt))

pub numbers-clean : (ns : List ℕ) (rest : List (List ℕ)) → AreClean rest → AreClean (map decimal_word ns ++ rest)
numbers-clean [] rest h = h
numbers-clean (n ∷ ns) rest h = (decimals_are_clean n, numbers-clean ns rest h)

pub literals-clean : (ls : List ℕ) (rest : List (List ℕ)) → AreClean rest → AreClean (map literal_word ls ++ rest)
literals-clean [] rest h = h
literals-clean (l ∷ ls) rest h = (literals_are_clean l, literals-clean ls rest h)
