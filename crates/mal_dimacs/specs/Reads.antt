-- What an answer is to the definitions of reading: it is theirs, unless memory ran out.
use Rattle.std.specs.Prelude.{◌≡◌, ℕ, List, Result, Ok, Err}
use Rattle.spec_text.specs.Numbers.{NumberWord}
use Rattle.spec_dimacs.specs.Reading.{Block, ◌>>=◌, after_number, after_words}
use Rattle.mal_base.specs.declared.block_fault.BlockFault.{BlockFault}
use Rattle.mal_dimacs.specs.declared.fault.DimacsError.{DimacsError}
use Rattle.mal_dimacs.specs.declared.fault.DimacsError.TheVariants as error
use Rattle.mal_dimacs.specs.declared.fault.DimacsFault.{DimacsFault}
use Rattle.mal_dimacs.specs.declared.fault.DimacsFault.TheVariants as located

-- what an error says of a reading
abbrev pub Fails : {X : Type 0} → DimacsError → Result X BlockFault → Type 0
Fails (error.Fault fault) reading = reading ≡ Err fault
Fails error.OutOfMemory reading = Unit {0}

-- an answer with a value is the reading's
abbrev pub Gives : {X : Type 0} → Result X DimacsError → Result X BlockFault → Type 0
Gives (Ok x) reading = reading ≡ Ok x
Gives (Err e) reading = Fails e reading

-- what changes a value in place leaves the reading's
abbrev pub Leaves : {U X : Type 0} → Result U DimacsError → X → Result X BlockFault → Type 0
Leaves (Ok u) left reading = reading ≡ Ok left
Leaves (Err e) left reading = Fails e reading

-- an error with its line
abbrev pub on_line_of : ℕ → DimacsError → DimacsFault
on_line_of line (error.Fault fault) = located.Fault line fault
on_line_of line error.OutOfMemory = located.OutOfMemory

-- what a fault with its line says of the reading of a text
abbrev pub FailsAt : {X : Type 0} → DimacsFault → Result X (ℕ × BlockFault) → Type 0
FailsAt (located.Fault line fault) reading = reading ≡ Err (line, fault)
FailsAt located.OutOfMemory reading = Unit {0}

-- an answer with a value is that of the reading of a text
abbrev pub GivesAt : {X : Type 0} → Result X DimacsFault → Result X (ℕ × BlockFault) → Type 0
GivesAt (Ok x) reading = reading ≡ Ok x
GivesAt (Err e) reading = FailsAt e reading

-- after a word that says this and the words after it
abbrev pub after_said : NumberWord → List (List ℕ) → Block → Result Block BlockFault
after_said said words b = after_number said b >>= after_words words
