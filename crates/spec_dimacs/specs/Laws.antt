-- What holds of the grammar and of reading, in the form in which the law functions state it.
use Rattle.std.specs.Prelude.{◌≡◌, ◌↔◌, ℕ, ◌<◌, true, List, length, take, Option, Ok, Err}
use Rattle.spec_text.specs.Inputs.{lines_of}
use Rattle.mal_base.specs.declared.block_fault.BlockFault.{BlockFault}
use Rattle.mal_base.specs.Formulas.{Formulated, is_formula}
use Rattle.spec_dimacs.specs.Merged.{clause_of, IsClauseOf}
use Rattle.spec_dimacs.specs.Grammar.{Spells}
use Rattle.spec_dimacs.specs.Reading.{read_text}
use Rattle.spec_dimacs.specs.Written.{spelling}

-- a text spells a formula exactly where reading it gives this formula; so each text either spells one formula or has a
-- first fault, and never both
abbrev pub SpellingIsRead : Type 0
SpellingIsRead = (text : List ℕ) (formula : Formulated) → Spells text formula ↔ (read_text text ≡ Ok formula)

-- a text spells one formula at most
abbrev pub SpellsOne : Type 0
SpellsOne = (text : List ℕ) (f g : Formulated) → Spells text f → Spells text g → f ≡ g

-- what a text spells is a formula in form
abbrev pub SpelledIsFormula : Type 0
SpelledIsFormula = (text : List ℕ) (formula : Formulated) → Spells text formula → is_formula formula ≡ true

-- a formula in form is spelled by the text that it is written as
abbrev pub WrittenIsSpelled : Type 0
WrittenIsSpelled = (formula : Formulated) → is_formula formula ≡ true → Spells (spelling formula) formula

-- a formula in form is read again from the text that it is written as
abbrev pub WrittenIsRead : Type 0
WrittenIsRead = (formula : Formulated) → is_formula formula ≡ true → read_text (spelling formula) ≡ Ok formula

-- literals make one clause, or none where they have a variable with both signs
abbrev pub LiteralsMakeOne : Type 0
LiteralsMakeOne = (lits : List ℕ) (clause : Option (List ℕ)) → IsClauseOf lits clause ↔ (clause ≡ clause_of lits)

-- nothing after a faulty line counts: where the first fault is on a line before the last, each text that begins with
-- the same lines, up to this one, has the same first fault
abbrev pub FaultIsFirst : Type 0
FaultIsFirst = (text other : List ℕ) (line : ℕ) (fault : BlockFault) → read_text text ≡ Err (line, fault) → line < length (lines_of text) → take line (lines_of other) ≡ take line (lines_of text) → read_text other ≡ Err (line, fault)
