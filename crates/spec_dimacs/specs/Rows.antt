-- The lines of a text that count: those that are neither empty nor comments, each as its words.
use Rattle.std.specs.Prelude.{ℕ, Bool, true, false, not, List, [], ◌∷◌, map, filter, ◌==◌}
use Rattle.spec_text.specs.Inputs.{lines_of, words_of}

-- a word that begins with the letter c
abbrev pub is_comment : List ℕ → Bool
is_comment [] = false
is_comment (byte ∷ rest) = byte == 99

-- the words of a line that is passed over: there are none, or the first one begins a comment
abbrev pub is_passed : List (List ℕ) → Bool
is_passed [] = true
is_passed (first ∷ others) = is_comment first

-- the words of each line of a text
abbrev pub rows_of : List ℕ → List (List (List ℕ))
rows_of text = map words_of (lines_of text)

-- the words of each line of a text that counts
abbrev pub counted_rows : List ℕ → List (List (List ℕ))
counted_rows text = filter (λ row. not (is_passed row)) (rows_of text)
