-- Numbers at the beginning of a line.
use Rattle.std.proofs.Common.{◌≡◌, ℕ, zero, suc, ◌<◌, ◌≤◌, ◌^◌, Bool, true, false, cond, ◌==◌, ◌||◌, nat_lt, nat_le, List, [], ◌∷◌, ◌++◌, length, filter, ℤ, pos, negsuc, neg_ℤ, ◌-ℤ◌, to_z, of_z, w64, ◌⊎◌, inl, inr, refl, sym, ap, ◌∙◌, arith}
use Rattle.std.specs.Prelude.{nat_abs}
use Rattle.std.specs.List.{AllByRecursion, list_all, slice_split, onto_first}
use Rattle.std.proofs.lemmas.List.Splits.{slice_split_none, slice_split_at}
use Rattle.std.proofs.lemmas.List.Elements.{All-from_recursion}
use Rattle.std.proofs.lemmas.Bool.{ltb-true}
use Rattle.std.proofs.lemmas.Int.{ints}
use Rattle.std.proofs.lemmas.Bool.Decides.{nat_tests}
use Rattle.spec_text.specs.Inputs.{is_blank, is_word, words_of}
use Rattle.spec_text.specs.Numbers.{NumberWord, is_digit, is_numeral, value_of, magnitude_in, number_in, negated}
use Rattle.spec_text.specs.Numbers.NumberWord.{NotANumber, TooLarge, Number}
use Rattle.mal_base.proofs.Sorting.{and-left, and-right}
use Rattle.mal_text.specs.Numbers.{said_within, BeginsWith, Cuts, BeginsWithDigits, begins_number}

-- bytes without a blank, of which there are some, are a word
keeps : (word : List ℕ) (parts : List (List ℕ)) → 0 < length word → filter is_word (word ∷ parts) ≡ word ∷ filter is_word parts
keeps [] parts h = absurd (omega arith)
keeps (b ∷ bs) parts h = let p : is_word (b ∷ bs) ≡ true = grind (arith, nat_tests) in ap (λ (t : Bool). cond t ((b ∷ bs) ∷ filter is_word parts) (filter is_word parts)) p

-- the word up to a blank or to the end of a line is its first word
word_cut : (line word rest : List ℕ) → 0 < length word → AllByRecursion (λ b. is_blank b ≡ false) word → Cuts line word rest → words_of line ≡ word ∷ words_of rest
word_cut line word rest some clear (inl (e, f)) =
    ap words_of e
    ∙ ap (filter is_word) (slice_split_none is_blank word (All-from_recursion _ word clear)) ∙ keeps word [] some
    ∙ ap (λ (r : List ℕ). word ∷ words_of r) (sym f)
word_cut line word rest some clear (inr (b, blank, e)) =
    ap words_of e
    ∙ ap (filter is_word) (slice_split_at is_blank word b rest (All-from_recursion _ word clear) blank) ∙ keeps word (slice_split is_blank rest) some

no_blank : (b : ℕ) → is_digit b ≡ true → is_blank b ≡ false
no_blank b h = grind (arith, nat_tests)

digits_clear : (digits : List ℕ) → list_all is_digit digits ≡ true → AllByRecursion (λ b. is_blank b ≡ false) digits
digits_clear [] h = tt
digits_clear (b ∷ bs) h = (no_blank b (and-left (is_digit b) (list_all is_digit bs) h), digits_clear bs (and-right (is_digit b) (list_all is_digit bs) h))

are_some : (digits : List ℕ) → is_numeral digits ≡ true → 0 < length digits
are_some digits h = ltb-true 0 (length digits) (and-left (nat_lt 0 (length digits)) (list_all is_digit digits) h)

are_clear : (digits : List ℕ) → is_numeral digits ≡ true → AllByRecursion (λ b. is_blank b ≡ false) digits
are_clear digits h = digits_clear digits (and-right (nat_lt 0 (length digits)) (list_all is_digit digits) h)

-- what digits say
magnitude_said : (digits : List ℕ) (n max : ℕ) → is_numeral digits ≡ true → value_of digits ≡ n → magnitude_in digits max ≡ cond (nat_le n max) (Number (pos n)) TooLarge
magnitude_said digits n max h e =
    ap (λ (t : Bool). cond t (cond (nat_le (value_of digits) max) (Number (pos (value_of digits))) TooLarge) NotANumber) h
    ∙ ap (λ (v : ℕ). cond (nat_le v max) (Number (pos v)) TooLarge) e

no_sign : (b : ℕ) → is_digit b ≡ true → (b == 45) ≡ false
no_sign b h = grind (arith, nat_tests)

no_minus : (digits : List ℕ) (max : ℕ) → is_numeral digits ≡ true → number_in digits max ≡ magnitude_in digits max
no_minus [] max h = refl
no_minus (b ∷ bs) max h =
    let d : is_digit b ≡ true = and-left (is_digit b) (list_all is_digit bs) (and-right (nat_lt 0 (length (b ∷ bs))) (list_all is_digit (b ∷ bs)) h) in
    ap (λ (t : Bool). cond t (negated (magnitude_in bs max)) (magnitude_in (b ∷ bs) max)) (no_sign b d)

negative_said : (b : Bool) (m : ℕ) → negated (cond b (Number (pos (suc m))) TooLarge) ≡ cond b (Number (negsuc m)) TooLarge
negative_said true m = refl
negative_said false m = refl

below_zero : (digits : List ℕ) (n max : ℕ) → is_numeral digits ≡ true → value_of digits ≡ n → 0 < n → number_in (45 ∷ digits) max ≡ said_within max (neg_ℤ (pos n))
below_zero digits zero max h e some = absurd (omega arith)
below_zero digits (suc m) max h e some = ap negated (magnitude_said digits (suc m) max h e) ∙ negative_said (nat_le (suc m) max) m

-- a line of digits, maybe after a minus sign, begins with their number
pub begins_digits : (line rest : List ℕ) (n : ℕ) (z : ℤ) → BeginsWithDigits line n rest → z ≡ pos n → BeginsWith line z (words_of rest)
begins_digits line rest n z (digits, numeral, value, cut) e = (
  digits,
  word_cut line digits rest (are_some digits numeral) (are_clear digits numeral) cut,
  λ max. no_minus digits max numeral ∙ magnitude_said digits n max numeral value ∙ ap (said_within max) (sym e),
)

behind_sign : (line digits rest : List ℕ) → Cuts line digits rest → Cuts (45 ∷ line) (45 ∷ digits) rest
behind_sign line digits rest (inl (e, f)) = inl (ap (λ (xs : List ℕ). 45 ∷ xs) e, f)
behind_sign line digits rest (inr (b, blank, e)) = inr (b, blank, ap (λ (xs : List ℕ). 45 ∷ xs) e)

pub begins_negative : (line rest : List ℕ) (n : ℕ) (z : ℤ) → BeginsWithDigits line n rest → 0 < n → z ≡ neg_ℤ (pos n) → BeginsWith (45 ∷ line) z (words_of rest)
begins_negative line rest n z (digits, numeral, value, cut) some e = (
  45 ∷ digits,
  word_cut (45 ∷ line) (45 ∷ digits) rest (omega arith) (refl, are_clear digits numeral) (behind_sign line digits rest cut),
  λ max. below_zero digits n max numeral value some ∙ ap (said_within max) (sym e),
)

pub negative_bits : (n : ℕ) → n ≤ 2 ^ 62 → to_z w64 (of_z w64 (pos 0 -ℤ to_z w64 n)) ≡ neg_ℤ (pos n)
negative_bits n h = omega (arith, ints)

pub positive_bits : (n : ℕ) → n ≤ 2 ^ 62 → to_z w64 n ≡ pos n
positive_bits n h = omega (arith, ints)

-- a line that begins with a digit or a minus sign has a first word that does
abbrev pub HasFirst : ℕ → List (List ℕ) → Type 0
HasFirst byte words = (word : List ℕ) × (others : List (List ℕ)) × (words ≡ (byte ∷ word) ∷ others)

first_part : (byte : ℕ) (parts : List (List ℕ)) → HasFirst byte (filter is_word (onto_first byte parts))
first_part byte [] = ([], [], keeps (byte ∷ []) [] (omega arith))
first_part byte (part ∷ parts) = (part, filter is_word parts, keeps (byte ∷ part) parts (omega arith))

word_of_byte : (byte : ℕ) (rest : List ℕ) → is_blank byte ≡ false → HasFirst byte (words_of (byte ∷ rest))
word_of_byte byte rest e =
    rw e (first_part byte (slice_split is_blank rest))

number_clear : (byte : ℕ) → (byte == 45 || is_digit byte) ≡ true → is_blank byte ≡ false
number_clear byte h = grind (arith, nat_tests)

pub first_of_number : (line : List ℕ) → begins_number line ≡ true → (byte : ℕ) × ((byte == 45 || is_digit byte) ≡ true) × HasFirst byte (words_of line)
first_of_number [] h = absurd (cc)
first_of_number (byte ∷ rest) h = (byte, h, word_of_byte byte rest (number_clear byte h))
