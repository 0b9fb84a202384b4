-- What holds of texts, words and numbers, in the form in which the law functions state it.
use Rattle.std.specs.Prelude.{◌≡◌, ℕ, ◌≤◌, ◌<◌, ◌^◌, List, [], ◌∷◌, ◌++◌, map, length, ◌==◌, flat_map, ℤ, nat_abs}
use Rattle.std.specs.Fmt.{signed_decimal}
use Rattle.std.specs.List.{join_with_byte, slice_split}
use Rattle.spec_text.specs.Lines.{text_of, IsClean, AreClean, AreRows}
use Rattle.spec_text.specs.Numbers.{decimal_word, literal_word, number_in}
use Rattle.spec_text.specs.Numbers.NumberWord.{Number}
use Rattle.spec_text.specs.Inputs.{lines_of, words_of}

-- a written number is a clean word
abbrev pub DecimalsAreClean : Type 0
DecimalsAreClean = (n : ℕ) → IsClean (decimal_word n)

-- a written literal is a clean word
abbrev pub LiteralsAreClean : Type 0
LiteralsAreClean = (code : ℕ) → IsClean (literal_word code)

-- two numbers of 64 bits that are written alike are equal
abbrev pub DecimalsDiffer : Type 0
DecimalsDiffer = (m n : ℕ) → m < 2 ^ 64 → n < 2 ^ 64 → decimal_word m ≡ decimal_word n → m ≡ n

-- two literals that are written alike are equal
abbrev pub LiteralsDiffer : Type 0
LiteralsDiffer =
    (a b : ℕ) → 2 ≤ a → 2 ≤ b → a < 2 ^ 64 → b < 2 ^ 64 → literal_word a ≡ literal_word b → a ≡ b

-- a line that is cut at its spaces gives its words again
abbrev pub WordsAgain : Type 0
WordsAgain =
    (words : List (List ℕ)) → AreClean words → 0 < length words
    → slice_split (λ b. b == 32) (join_with_byte 32 words) ≡ words

-- a text that is cut at its line ends gives its lines again, and nothing after the last line end
abbrev pub LinesAgain : Type 0
LinesAgain =
    (rows : List (List (List ℕ))) → AreRows rows
    → slice_split (λ b. b == 10) (text_of rows) ≡ map (join_with_byte 32) rows ++ [] ∷ []

-- two lists of lines with one text are equal
abbrev pub TextsDiffer : Type 0
TextsDiffer = (a b : List (List (List ℕ))) → AreRows a → AreRows b → text_of a ≡ text_of b → a ≡ b

-- the words of a line, one after another, each but the first after a space
abbrev pub JoinedWordByWord : Type 0
JoinedWordByWord =
    (word : List ℕ) (words : List (List ℕ))
    → join_with_byte 32 (word ∷ words) ≡ word ++ flat_map (λ w. 32 ∷ w) words

-- the words of a written line are read again
abbrev pub WordsReadAgain : Type 0
WordsReadAgain = (words : List (List ℕ)) → AreClean words → words_of (join_with_byte 32 words) ≡ words

-- the lines of a written text are read again
abbrev pub LinesReadAgain : Type 0
LinesReadAgain =
    (rows : List (List (List ℕ))) → AreRows rows → lines_of (text_of rows) ≡ map (join_with_byte 32) rows

-- a number that is written is read again, where its magnitude is within the bound
abbrev pub NumbersReadAgain : Type 0
NumbersReadAgain = (z : ℤ) (max : ℕ) → nat_abs z ≤ max → max < 2 ^ 63 → number_in (signed_decimal z) max ≡ Number z
