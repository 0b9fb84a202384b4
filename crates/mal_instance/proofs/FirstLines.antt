-- The first lines of a text are the lines of a text.
use Rattle.std.proofs.Common.{◌≡◌, ℕ, zero, suc, Bool, true, false, cond, ◌==◌, List, [], ◌∷◌, map, take, refl, ap, ◌∙◌}
use Rattle.std.specs.List.{onto_first}
use Rattle.spec_text.specs.Inputs.{lines_of, words_of}
use Rattle.spec_dimacs.specs.Rows.{rows_of}

-- the text of the first lines
abbrev first_lines : ℕ → List ℕ → List ℕ
first_lines zero text = []
first_lines (suc n) [] = []
first_lines (suc n) (byte ∷ rest) = byte ∷ cond (byte == 10) (first_lines n rest) (first_lines (suc n) rest)

take-first : (byte n : ℕ) (lines : List (List ℕ)) → onto_first byte (take (suc n) lines) ≡ take (suc n) (onto_first byte lines)
take-first byte zero [] = refl
take-first byte (suc n) [] = refl
take-first byte n (line ∷ lines) = refl

first-lines : (n : ℕ) (text : List ℕ) → lines_of (first_lines n text) ≡ take n (lines_of text)
first-lines zero text = refl
first-lines (suc n) [] = refl
first-lines (suc n) (byte ∷ rest) = by_byte (byte == 10) (first-lines n rest) (first-lines (suc n) rest)
  where
    by_byte : (b : Bool) → lines_of (first_lines n rest) ≡ take n (lines_of rest) → lines_of (first_lines (suc n) rest) ≡ take (suc n) (lines_of rest)
        → cond b ([] ∷ lines_of (cond b (first_lines n rest) (first_lines (suc n) rest))) (onto_first byte (lines_of (cond b (first_lines n rest) (first_lines (suc n) rest)))) ≡ take (suc n) (cond b ([] ∷ lines_of rest) (onto_first byte (lines_of rest)))
    by_byte true h k = ap (λ (lines : List (List ℕ)). [] ∷ lines) h
    by_byte false h k = ap (onto_first byte) k ∙ take-first byte n (lines_of rest)

take_rows : (n : ℕ) (lines : List (List ℕ)) → map words_of (take n lines) ≡ take n (map words_of lines)
take_rows zero lines = refl
take_rows (suc n) [] = refl
take_rows (suc n) (line ∷ lines) = ap (λ (rows : List (List (List ℕ))). words_of line ∷ rows) (take_rows n lines)

pub first-rows : (n : ℕ) (text : List ℕ) → (f : List ℕ) × (rows_of f ≡ take n (rows_of text))
first-rows n text = (first_lines n text, ap (map words_of) (first-lines n text) ∙ take_rows n (lines_of text))
