-- A line without the blanks in front, and its first word.
use Rattle.std.proofs.Common.{◌≡◌, ℕ, zero, suc, ◌+◌, ◌-◌, ◌<◌, refl, true, false, List, ◌∷◌, length, take, drop, get_or, arith, add-one, ap, ◌∙◌, sym}
use Rattle.std.proofs.lemmas.List.{take_rest}
use Rattle.spec_text.specs.Inputs.{is_blank, words_of}
use Rattle.spec_text.proofs.Read.{first_word_at}

-- what is left from a place on
pub words_from : (line : List ℕ) (i : ℕ) → words_of (drop i line) ≡ words_of line → words_of (take (length line - i) (drop i line)) ≡ words_of line
words_from line i so_far = ap words_of (take_rest line i) ∙ so_far

-- the first word, up to a blank
pub word_up_to : (line : List ℕ) (i : ℕ) → 0 < length line → is_blank (get_or line 0 0) ≡ false → i < length line → is_blank (get_or line i 0) ≡ true → ((k : ℕ) → k < i → is_blank (get_or line k 0) ≡ false) → words_of line ≡ take i line ∷ words_of (take (length line - (i + 1)) (drop (i + 1) line))
word_up_to line i some first low blank none =
    first_word_at line i (above i refl) low blank none
    ∙ ap (λ (rest : List ℕ). take i line ∷ words_of rest) (ap (λ (n : ℕ). drop n line) (sym (add-one i)) ∙ sym (take_rest line (i + 1)))
  where
    above : (j : ℕ) → i ≡ j → 0 < i
    above zero e = let p : is_blank (get_or line 0 0) ≡ true = ap (λ (n : ℕ). is_blank (get_or line n 0)) (sym e) ∙ blank in absurd (cc)
    above (suc j) e = omega arith
