-- Which lines of a text are a formula's: those before the first that begins with one of these words.
use Rattle.std.specs.Prelude.{ℕ, Bool, false, not, List, [], ◌∷◌, bytes_eq, if◌then◌else◌, None, Result}
use Rattle.std.specs.List.{list_any}
use Rattle.mal_base.specs.Formulas.{Formulated}
use Rattle.mal_base.specs.declared.block_fault.BlockFault.{BlockFault}
use Rattle.spec_dimacs.specs.Reading.{read_rows}

-- a line begins with one of these words
abbrev pub begins : List (List ℕ) → List (List ℕ) → Bool
begins words [] = false
begins words (first ∷ others) = list_any (bytes_eq first) words

-- a line of the formula: it begins with none of these words
abbrev pub is_formula_row : List (List ℕ) → List (List ℕ) → Bool
is_formula_row words row = not (begins words row)

-- the lines of the formula: those before the first line that is none
abbrev pub formula_rows : List (List ℕ) → List (List (List ℕ)) → List (List (List ℕ))
formula_rows words [] = []
formula_rows words (row ∷ rows) = if is_formula_row words row then row ∷ formula_rows words rows else []

-- the lines after them
abbrev pub rows_after : List (List ℕ) → List (List (List ℕ)) → List (List (List ℕ))
rows_after words [] = []
rows_after words (row ∷ rows) = if is_formula_row words row then rows_after words rows else row ∷ rows

-- the formula of these lines, or its first fault with its line; a fault at the end of the formula is named with its
-- last line, 1 where there is none
abbrev pub formula_of : List (List ℕ) → List (List (List ℕ)) → Result Formulated (ℕ × BlockFault)
formula_of words rows = read_rows (formula_rows words rows) 0 None
