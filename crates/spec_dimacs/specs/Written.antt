-- The one text that a formula is written as.
use Rattle.std.specs.Prelude.{ℕ, List, [], ◌∷◌, ◌++◌, length, map, codes, Option, Some, None}
use Rattle.mal_base.specs.Formulas.{Formulated}
use Rattle.spec_text.specs.Lines.{text_of}
use Rattle.spec_text.specs.Numbers.{decimal_word, literal_word}

-- the words of literals, closed by a 0
abbrev pub closed_words : List ℕ → List (List ℕ)
closed_words lits = map literal_word lits ++ codes "0" ∷ []

-- the words of a clause's line; a tautology is written as the literals 1 and -1
abbrev pub clause_words : Option (List ℕ) → List (List ℕ)
clause_words None = closed_words (2 ∷ 3 ∷ [])
clause_words (Some lits) = closed_words lits

-- the words of a header line: the variables and the number of clauses
abbrev pub header_words : ℕ → ℕ → List (List ℕ)
header_words variables clauses = codes "p" ∷ codes "cnf" ∷ decimal_word variables ∷ decimal_word clauses ∷ []

-- the words of the lines of a formula: the header, and a line a clause
abbrev pub formula_rows : Formulated → List (List (List ℕ))
formula_rows f = header_words f.variables (length f.clauses) ∷ map clause_words f.clauses

-- the one text that a formula is written as
unfoldable pub spelling : Formulated → List ℕ
spelling f = text_of (formula_rows f)
