-- What small words, lines and texts are read as and written as.
use Rattle.std.specs.Prelude.{◌≡◌, [], ◌∷◌, pos, negsuc, codes}
use Rattle.spec_text.specs.Lines.{line_of}
use Rattle.spec_text.specs.Numbers.{literal_word, number_in}
use Rattle.spec_text.specs.Numbers.NumberWord.{NotANumber, TooLarge, Number}
use Rattle.spec_text.specs.Inputs.{lines_of, words_of}

-- words as numbers of a magnitude up to 12
pub record NumberExamples : Type 0 where
  pub plain : number_in (codes "12") 12 ≡ Number (pos 12)
  pub leading_zeros : number_in (codes "007") 12 ≡ Number (pos 7)
  pub zero_word : number_in (codes "0") 12 ≡ Number (pos 0)
  pub minus : number_in (codes "-12") 12 ≡ Number (negsuc 11)
  pub minus_leading_zero : number_in (codes "-01") 12 ≡ Number (negsuc 0)
  pub minus_zero : number_in (codes "-0") 12 ≡ NotANumber
  pub minus_zeros : number_in (codes "-00") 12 ≡ NotANumber
  pub plus : number_in (codes "+4") 12 ≡ NotANumber
  pub minus_alone : number_in (codes "-") 12 ≡ NotANumber
  pub no_digit : number_in (codes "1x") 12 ≡ NotANumber
  pub too_large : number_in (codes "13") 12 ≡ TooLarge
  pub minus_too_large : number_in (codes "-13") 12 ≡ TooLarge

-- literals by their codes, lines and texts
pub record TextExamples : Type 0 where
  pub positive : literal_word 6 ≡ codes "3"
  pub negative : literal_word 7 ≡ codes "-3"
  pub line : line_of (codes "1" ∷ codes "-2" ∷ codes "0" ∷ []) ≡ codes "1 -2 0\n"
  pub blanks : words_of (codes " a\tbc \r") ≡ codes "a" ∷ codes "bc" ∷ []
  pub empty_line : words_of (codes " \t") ≡ []
  pub last_line : lines_of (codes "a\n\nb") ≡ codes "a" ∷ [] ∷ codes "b" ∷ []
  pub line_end_last : lines_of (codes "a\n") ≡ codes "a" ∷ []
