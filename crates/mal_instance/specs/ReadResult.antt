-- What the answers of reading an instance say.
use Rattle.std.specs.Prelude.{◌≡◌, ℕ, drop, Option, Some, None, Result}
use Rattle.mal_base.specs.declared.block_fault.BlockFault.{BlockFault}
use Rattle.mal_base.specs.declared.line_fault.LineFault.TheVariants.{BadLine, Dimacs, Opposite, Range}
use Rattle.spec_text.specs.Inputs.{words_of}
use Rattle.spec_text.specs.Faults.{GivesBy}
use Rattle.spec_dimacs.specs.Rows.{rows_of}
use Rattle.mal_dimacs.specs.declared.fault.DimacsFault.{DimacsFault}
use Rattle.mal_dimacs.specs.declared.fault.DimacsFault.TheVariants as located
use Rattle.mal_script.specs.declared.fault.AssumptionFault.{AssumptionFault}
use Rattle.mal_script.specs.declared.fault.AssumptionFault.TheVariants as assumption
use Rattle.mal_instance.specs.Reading.{Fault, LitsFault, Opened}
use Rattle.mal_instance.specs.Reading.Fault.{NoLine, InFormula, TooMany}
use Rattle.mal_instance.specs.Reading.LitsFault.{Wrong, Exceeds}
use Rattle.mal_instance.specs.declared.fault.InputFault.{InputFault}
use Rattle.mal_instance.specs.declared.fault.InputFault.TheVariants as input
use Rattle.mal_instance.specs.declared.fault.LitsError.{LitsError}
use Rattle.mal_instance.specs.declared.fault.LitsError.TheVariants as lits
use Rattle.mal_instance.specs.declared.opened as code

-- the fault of a formula with its line, none when out of memory
abbrev pub located_of : DimacsFault → Option (ℕ × BlockFault)
located_of (located.Fault line fault) = Some (line, fault)
located_of located.OutOfMemory = None

-- the fault of a text, none when out of memory
abbrev pub fault_of : InputFault → Option Fault
fault_of input.NoLine = Some NoLine
fault_of (input.Formula line fault) = Some (InFormula line fault)
fault_of (input.TooMany line) = Some (TooMany line)
fault_of input.OutOfMemory = None

-- the fault of a line of literals, none when out of memory
abbrev pub lits_fault_of : LitsError → Option LitsFault
lits_fault_of (lits.Wrong fault) = Some (Wrong fault)
lits_fault_of lits.Exceeds = Some Exceeds
lits_fault_of lits.OutOfMemory = None

-- what was answered, seen by view, is what reading gives, unless memory ran out
abbrev pub Gives : {X Y : Type 0} → (X → Y) → Result X InputFault → Result Y Fault → Type 0
Gives view answer read = GivesBy fault_of view answer read

abbrev pub GivesLits : {X Y : Type 0} → (X → Y) → Result X LitsError → Result Y LitsFault → Type 0
GivesLits view answer read = GivesBy lits_fault_of view answer read

-- the error of a line of literals as the fault of this line
abbrev pub IsOnLine : ℕ → LitsError → InputFault → Type 0
IsOnLine line (lits.Wrong fault) e = e ≡ input.Formula line fault
IsOnLine line lits.Exceeds e = e ≡ input.TooMany line
IsOnLine line lits.OutOfMemory e = e ≡ input.OutOfMemory

-- the refusal of assumptions as that of a line of literals
abbrev pub lits_error_of : AssumptionFault → LitsError
lits_error_of assumption.BadLine = lits.Wrong BadLine
lits_error_of assumption.Range = lits.Wrong Range
lits_error_of (assumption.Opposite var) = lits.Wrong (Opposite var)
lits_error_of assumption.OutOfMemory = lits.OutOfMemory

-- the fault of a formula as that of its text
abbrev pub input_fault_of : DimacsFault → InputFault
input_fault_of (located.Fault line fault) = input.Formula line (Dimacs fault)
input_fault_of located.OutOfMemory = input.OutOfMemory

-- a text that is read up to its line of literals
abbrev pub seen : code.Opened.Opened → Opened
seen o = record { formula = o.formula; line = o.line; words = drop 1 (words_of o.row.now); rows = rows_of o.rest.now }
