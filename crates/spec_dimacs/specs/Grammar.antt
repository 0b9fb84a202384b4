-- The grammar of DIMACS CNF: which formula a text spells.
use Rattle.std.specs.Prelude.{◌≡◌, ℕ, true, List, [], ◌∷◌, ◌++◌, ◌⊎◌, length, map, flat_map, codes, ℤ, pos}
use Rattle.std.specs.List.{list_all}
use Rattle.mal_base.specs.Formulas.{Formulated, is_within, is_within_limits}
use Rattle.spec_text.specs.Numbers.{is_numeral, value_of, number_in, number_of}
use Rattle.spec_text.specs.Numbers.NumberWord.{Number}
use Rattle.spec_dimacs.specs.Rows.{counted_rows}
use Rattle.spec_dimacs.specs.Merged.{AreClausesOf}

-- a word of digits that says this number, leading zeros allowed
abbrev pub Says : List ℕ → ℕ → Type 0
Says word n = (is_numeral word ≡ true) × (value_of word ≡ n)

-- the words of a header: `p`, `cnf`, the number of variables and the number of clauses
abbrev pub IsHeader : List (List ℕ) → ℕ → ℕ → Type 0
IsHeader words variables clauses = (v : List ℕ) × (c : List ℕ) × (words ≡ codes "p" ∷ codes "cnf" ∷ v ∷ c ∷ []) × Says v variables × Says c clauses

-- the numbers of a clause: those of its literals and then a 0
abbrev pub closed_numbers : List ℕ → List ℤ
closed_numbers lits = map number_of lits ++ pos 0 ∷ []

-- the words of several lines, one after another
abbrev pub words_in : List (List (List ℕ)) → List (List ℕ)
words_in rows = flat_map (λ row. row) rows

-- the words of lines are numbers, which are the literals of these clauses, each clause closed by a 0
abbrev pub AreClosed : ℕ → List (List (List ℕ)) → List (List ℕ) → Type 0
AreClosed variables rows lists = map (λ word. number_in word variables) (words_in rows) ≡ map (λ z. Number z) (flat_map closed_numbers lists)

-- what may stand after the clauses: nothing, or a line `%` and then nothing or a line `0`
abbrev pub IsTail : List (List (List ℕ)) → Type 0
IsTail rows = (rows ≡ []) ⊎ (rows ≡ (codes "%" ∷ []) ∷ []) ⊎ (rows ≡ (codes "%" ∷ []) ∷ (codes "0" ∷ []) ∷ [])

-- a text spells a formula: its lines that count are a header, the lines of the clauses, and what may stand after them.
-- The clauses are as many as the header says and have variables that it declares; the formula has those literals once
-- each, none in the place of a tautology, and is within the limits
pub record Spells (text : List ℕ) (formula : Formulated) : Type 0 where
  pub header : List (List ℕ)
  pub body : List (List (List ℕ))
  pub tail : List (List (List ℕ))
  pub lists : List (List ℕ)
  pub rows : counted_rows text ≡ header ∷ (body ++ tail)
  pub opens : IsHeader header formula.variables (length formula.clauses)
  pub closed : AreClosed formula.variables body lists
  pub within : list_all (is_within formula.variables) lists ≡ true
  pub ends : IsTail tail
  pub clauses : AreClausesOf lists formula.clauses
  pub limits : is_within_limits formula.variables formula.clauses ≡ true
