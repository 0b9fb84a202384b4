-- What holds of proof lines, in the form in which the law functions state it.
use Rattle.std.specs.Prelude.{◌≡◌, ◌↔◌, ℕ, ◌<◌, ◌≤◌, true, List, Option, Some, None, Ok}
use Rattle.std.specs.List.{AllByRecursion}
use Rattle.mal_base.specs.Clauses.{rises}
use Rattle.spec_text.specs.Lines.{IsRow}
use Rattle.spec_logic.specs.Refutation.{ProofLine}
use Rattle.spec_logic.specs.Refutation.ProofLine.{Add, Delete}
use Rattle.spec_dimacs.specs.Merged.{IsClauseOf, clause_of}
use Rattle.spec_lrat.specs.Reading.{greatest_id, reading}
use Rattle.spec_lrat.specs.Grammar.{IsServed, Spells}
use Rattle.spec_lrat.specs.Written.{row_of}

-- words spell the line that they are read as, and no other; where reading finds a fault they spell none
abbrev pub SpellsWhatIsRead : Type 0
SpellsWhatIsRead = (last : ℕ) (row : List (List ℕ)) (line : ProofLine) → Spells last row line ↔ (reading last row ≡ Ok line)

-- literals make one clause
abbrev pub MakesOneClause : Type 0
MakesOneClause = (lits : List ℕ) (clause : Option (List ℕ)) → IsClauseOf lits clause ↔ (clause_of lits ≡ clause)

-- an id that can be written
abbrev pub IsId : ℕ → Type 0
IsId id = (1 ≤ id) × (id ≤ greatest_id)

-- a clause that can be written
abbrev pub IsClause : Option (List ℕ) → Type 0
IsClause None = Unit {0}
IsClause (Some lits) = (rises lits ≡ true) × AllByRecursion IsServed lits

-- a line that adds and can be written, after the id `last`
pub record IsAddition (last id : ℕ) (clause : Option (List ℕ)) (hints : List ℕ) : Type 0 where
  pub rising : last < id
  pub is_id : IsId id
  pub is_clause : IsClause clause
  pub are_ids : AllByRecursion IsId hints

-- a line that can be written, after the id `last`
abbrev pub IsLine : ℕ → ProofLine → Type 0
IsLine last (Add id clause hints) = IsAddition last id clause hints
IsLine last (Delete ids) = AllByRecursion IsId ids

-- the words of a written line can stand in a line, and are read again
abbrev pub WrittenIsRead : Type 0
WrittenIsRead = (last : ℕ) (line : ProofLine) → IsLine last line → IsRow (row_of line) × (reading last (row_of line) ≡ Ok line)
