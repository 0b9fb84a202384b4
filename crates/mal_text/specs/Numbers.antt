-- What the answer of a reader of numbers says.
use Rattle.std.specs.Prelude.{◌≡◌, ℕ, ℤ, pos, nat_abs, nat_le, ◌==◌, ◌||◌, Bool, true, false, if◌then◌else◌, List, [], ◌∷◌, ◌++◌, ◌⊎◌, Result, Ok, Err}
use Rattle.spec_text.specs.Inputs.{words_of, is_blank}
use Rattle.spec_text.specs.Numbers.{NumberWord, is_digit, is_numeral, value_of, number_in}
use Rattle.spec_text.specs.Numbers.NumberWord.{NotANumber, TooLarge, Number}
use Rattle.mal_text.specs.declared.numbers.NumberFault.{NumberFault}
use Rattle.mal_text.specs.declared.numbers.NumberFault.TheVariants as fault

-- what a word says, as a reader of numbers answers it
abbrev pub word_of : Result ℤ NumberFault → NumberWord
word_of (Ok n) = Number n
word_of (Err fault.NotANumber) = NotANumber
word_of (Err fault.TooLarge) = TooLarge

-- the same of a number without a sign
abbrev pub magnitude_word_of : Result ℕ NumberFault → NumberWord
magnitude_word_of (Ok n) = Number (pos n)
magnitude_word_of (Err fault.NotANumber) = NotANumber
magnitude_word_of (Err fault.TooLarge) = TooLarge

-- what a number says where one with a magnitude up to `max` is wanted
abbrev pub said_within : ℕ → ℤ → NumberWord
said_within max z = if nat_le (nat_abs z) max then Number z else TooLarge

-- a line begins with a word that says this number, and these are the words after it
abbrev pub BeginsWith : List ℕ → ℤ → List (List ℕ) → Type 0
BeginsWith line z words = (word : List ℕ) × (words_of line ≡ word ∷ words) × ((max : ℕ) → number_in word max ≡ said_within max z)

-- a line is these bytes, a blank and the line after it, or these bytes alone
abbrev pub Cuts : List ℕ → List ℕ → List ℕ → Type 0
Cuts line front rest = ((line ≡ front) × (rest ≡ [])) ⊎ ((b : ℕ) × (is_blank b ≡ true) × (line ≡ front ++ b ∷ rest))

-- a line begins with digits of this value, up to a blank or to its end, and this is the line after them
abbrev pub BeginsWithDigits : List ℕ → ℕ → List ℕ → Type 0
BeginsWithDigits line n rest = (digits : List ℕ) × (is_numeral digits ≡ true) × (value_of digits ≡ n) × Cuts line digits rest

-- the first byte of a line is a digit or a minus sign
abbrev pub begins_number : List ℕ → Bool
begins_number [] = false
begins_number (byte ∷ rest) = byte == 45 || is_digit byte
