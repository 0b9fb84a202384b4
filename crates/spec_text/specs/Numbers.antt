-- The words that numbers are written as, and the numbers that words of digits are read as.
use Rattle.std.specs.Prelude.{ℕ, zero, ◌+◌, ◌-◌, ◌*◌, ◌/◌, ◌%◌, Bool, ◌&&◌, List, [], ◌∷◌, length, ℤ, pos, neg_ℤ, nat_lt, nat_le, ◌==◌, if◌then◌else◌, fold, decimal}
use Rattle.std.specs.Fmt.{signed_decimal}
use Rattle.std.specs.List.{list_all}

-- the word of a number
abbrev pub decimal_word : ℕ → List ℕ
decimal_word n = decimal n

-- the number that stands for a literal: a literal's code is twice its variable, and one more where it is negated
abbrev pub number_of : ℕ → ℤ
number_of code = if code % 2 == 0 then pos (code / 2) else neg_ℤ (pos (code / 2))

-- the word of a literal, given by its code
abbrev pub literal_word : ℕ → List ℕ
literal_word code = signed_decimal (number_of code)

-- what a word says where a number is wanted
pub data NumberWord : Type 0 where
  NotANumber : NumberWord
  TooLarge : NumberWord
  Number : ℤ → NumberWord

-- a decimal digit
abbrev pub is_digit : ℕ → Bool
is_digit byte = nat_le 48 byte && nat_le byte 57

-- one digit or more, and nothing else
abbrev pub is_numeral : List ℕ → Bool
is_numeral word = nat_lt 0 (length word) && list_all is_digit word

-- a number with one more digit after it
abbrev pub with_digit : ℕ → ℕ → ℕ
with_digit value digit = value * 10 + (digit - 48)

-- the value of a string of digits
abbrev pub value_of : List ℕ → ℕ
value_of digits = fold with_digit 0 digits

-- a number without a sign: one digit or more, of a value up to `max`
abbrev pub magnitude_in : List ℕ → ℕ → NumberWord
magnitude_in word max =
    if is_numeral word then (if nat_le (value_of word) max then Number (pos (value_of word)) else TooLarge) else NotANumber

-- what a word says that has a minus sign before it: there is no negative zero
abbrev pub negated : NumberWord → NumberWord
negated (Number (pos zero)) = NotANumber
negated (Number z) = Number (neg_ℤ z)
negated NotANumber = NotANumber
negated TooLarge = TooLarge

-- what a word says where a number with a magnitude up to `max` is wanted: an optional `-` and one digit or more
abbrev pub number_in : List ℕ → ℕ → NumberWord
number_in [] max = NotANumber
number_in (byte ∷ rest) max = if byte == 45 then negated (magnitude_in rest max) else magnitude_in (byte ∷ rest) max
