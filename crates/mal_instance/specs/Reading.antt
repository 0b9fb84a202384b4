-- Reading an instance, a formula and one line of literals after it: the instance, or the first fault.
use Rattle.std.specs.Prelude.{ℕ, suc, List, [], ◌∷◌, length, drop, nat_lt, if◌then◌else◌, Result, Ok, Err}
use Rattle.std.specs.List.{list_any}
use Rattle.mal_base.specs.Formulas.{Formulated}
use Rattle.mal_base.specs.declared.block_fault.BlockFault.{BlockFault}
use Rattle.mal_base.specs.declared.line_fault.LineFault.{LineFault}
use Rattle.mal_base.specs.declared.line_fault.LineFault.TheVariants.{BadLine, Dimacs}
use Rattle.spec_dimacs.specs.Rows.{is_passed, rows_of}
use Rattle.spec_dimacs.specs.Reading.{◌>>=◌}
use Rattle.mal_instance.specs.Rows.{begins, formula_rows, rows_after, formula_of}

-- a formula and literals
pub record Instance : Type 0 where
  pub formula : Formulated
  pub literals : List ℕ

-- the first fault of a text: no line begins with the word of the literals, this line is wrong, or it has more literals
-- than may be
pub data Fault : Type 0 where
  NoLine : Fault
  InFormula : (line : ℕ) → (fault : LineFault) → Fault
  TooMany : (line : ℕ) → Fault

-- why words spell no literals: a fault of their line, or there are more literals than may be
pub data LitsFault : Type 0 where
  Wrong : (fault : LineFault) → LitsFault
  Exceeds : LitsFault

-- how the words after the first one of the line of literals are read, for a formula
abbrev pub LitsReading : Type 0
LitsReading = Formulated → List (List ℕ) → Result (List ℕ) LitsFault

-- a fault of the line as one of its literals
abbrev pub wrong : {A : Type 0} → Result A LineFault → Result A LitsFault
wrong (Ok x) = Ok x
wrong (Err fault) = Err (Wrong fault)

-- so many literals at most
abbrev pub at_most : ℕ → List ℕ → Result (List ℕ) LitsFault
at_most most lits = if nat_lt most (length lits) then Err Exceeds else Ok lits

-- a fault of the formula, and one of this line
abbrev pub in_formula : {A : Type 0} → Result A (ℕ × BlockFault) → Result A Fault
in_formula (Ok x) = Ok x
in_formula (Err (line, fault)) = Err (InFormula line (Dimacs fault))

abbrev pub fault_on : ℕ → LitsFault → Fault
fault_on line (Wrong fault) = InFormula line fault
fault_on line Exceeds = TooMany line

abbrev pub on_line : {A : Type 0} → ℕ → Result A LitsFault → Result A Fault
on_line line (Ok x) = Ok x
on_line line (Err fault) = Err (fault_on line fault)

-- a text up to its line of literals: the formula, the number of that line, its words after the first one, and the lines
-- after it
pub record Opened : Type 0 where
  pub formula : Formulated
  pub line : ℕ
  pub words : List (List ℕ)
  pub rows : List (List (List ℕ))

-- the first of these lines, after so many lines of the formula, is that of the literals
abbrev pub opened_at : ℕ → List (List (List ℕ)) → Formulated → Result Opened Fault
opened_at line [] f = Err NoLine
opened_at line (row ∷ rows) f = Ok (record { formula = f; line = suc line; words = drop 1 row; rows = rows })

-- the lines of a text up to the first that begins with this word, which is looked for before anything else is read
abbrev pub opened : List ℕ → List (List (List ℕ)) → Result Opened Fault
opened word rows =
    if list_any (begins (word ∷ [])) rows
    then in_formula (formula_of (word ∷ []) rows) >>= opened_at (length (formula_rows (word ∷ []) rows)) (rows_after (word ∷ []) rows)
    else Err NoLine

-- these literals, where after so many lines only such lines follow as are passed over
abbrev pub ended : List ℕ → ℕ → List (List (List ℕ)) → Result (List ℕ) Fault
ended lits line [] = Ok lits
ended lits line (row ∷ rows) = if is_passed row then ended lits (suc line) rows else Err (InFormula (suc line) BadLine)

-- the literals of a text that is read up to their line
abbrev pub literals_of : LitsReading → Opened → Result (List ℕ) Fault
literals_of read o = on_line o.line (read o.formula o.words) >>= λ lits. ended lits o.line o.rows

abbrev pub instance_of : LitsReading → Opened → Result Instance Fault
instance_of read o = literals_of read o >>= λ lits. Ok (record { formula = o.formula; literals = lits })

-- the instance of a text, or its first fault
abbrev pub read_text : List ℕ → LitsReading → List ℕ → Result Instance Fault
read_text word read text = opened word (rows_of text) >>= instance_of read
