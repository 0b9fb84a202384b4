-- Texts as lines of words, as they are read.
use Rattle.std.specs.Prelude.{ℕ, Bool, false, ◌||◌, List, [], ◌∷◌, length, nat_lt, ◌==◌, bytes_eq, if◌then◌else◌, filter}
use Rattle.std.specs.List.{slice_split, onto_first}

-- a byte before the lines of the text after it: a line end begins an empty line, any other byte is the first of the
-- next line's
abbrev pub before_lines : ℕ → List (List ℕ) → List (List ℕ)
before_lines byte lines = if byte == 10 then [] ∷ lines else onto_first byte lines

-- the lines of a text: each ends at a line end, and bytes after the last line end are a last line
abbrev pub lines_of : List ℕ → List (List ℕ)
lines_of [] = []
lines_of (byte ∷ rest) = before_lines byte (lines_of rest)

-- a space, a tab or a carriage return
abbrev pub is_blank : ℕ → Bool
is_blank byte = byte == 32 || byte == 9 || byte == 13

-- not empty
abbrev pub is_word : List ℕ → Bool
is_word part = nat_lt 0 (length part)

-- the words of a line: its longest runs of bytes that are not blanks
abbrev pub words_of : List ℕ → List (List ℕ)
words_of line = filter is_word (slice_split is_blank line)

-- the line of this one word, by its words
abbrev pub is_word_line : List ℕ → List (List ℕ) → Bool
is_word_line word [] = false
is_word_line word (first ∷ []) = bytes_eq first word
is_word_line word (first ∷ second ∷ others) = false
