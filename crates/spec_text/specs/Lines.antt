-- Texts as lines of words, as they are written.
use Rattle.std.specs.Prelude.{ℕ, ◌<◌, ◌≤◌, List, [], ◌∷◌, ◌++◌, length, flat_map}
use Rattle.std.specs.List.{join_with_byte, AllByRecursion}

-- a line: its words with one space between two of them, and then a line end
abbrev pub line_of : List (List ℕ) → List ℕ
line_of words = join_with_byte 32 words ++ 10 ∷ []

-- a text: its lines, one after another
abbrev pub text_of : List (List (List ℕ)) → List ℕ
text_of rows = flat_map line_of rows

-- a word that can stand in a line: it is not empty, and has neither blanks nor line ends
abbrev pub IsClean : List ℕ → Type 0
IsClean word = (0 < length word) × AllByRecursion (λ b. 33 ≤ b) word

-- each word is clean
abbrev pub AreClean : List (List ℕ) → Type 0
AreClean words = AllByRecursion IsClean words

-- the words of a line that is not empty
abbrev pub IsRow : List (List ℕ) → Type 0
IsRow words = (0 < length words) × AreClean words

-- the words of each line of a text without empty lines
abbrev pub AreRows : List (List (List ℕ)) → Type 0
AreRows rows = AllByRecursion IsRow rows
