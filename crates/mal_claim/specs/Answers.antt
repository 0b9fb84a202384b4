-- What the answers say.
use Rattle.std.specs.Prelude.{◌≡◌, ℕ, Result, Ok, Err}
use Rattle.mal_lrat.specs.declared.fault.LineFault.{LineFault}
use Rattle.mal_lrat.specs.declared.fault.LineFault.TheVariants as answer
use Rattle.spec_lrat.specs.Reading.{Fault}
use Rattle.spec_lrat.specs.Reading.Fault.{BadNumber, MissingZero, IdNotRising, NegativeHint}
use Rattle.mal_claim.specs.declared.row.ProofFault.{ProofFault}

-- an answer other than out of memory is this fault of this line
abbrev pub FailsAt : {Y : Type 0} → ℕ → LineFault → Result Y (ℕ × Fault) → Type 0
FailsAt line answer.BadNumber read = read ≡ Err (line, BadNumber)
FailsAt line answer.MissingZero read = read ≡ Err (line, MissingZero)
FailsAt line (answer.IdNotRising last id) read = read ≡ Err (line, IdNotRising last id)
FailsAt line answer.NegativeHint read = read ≡ Err (line, NegativeHint)
FailsAt line answer.OutOfMemory read = Unit {0}

abbrev pub Fails : {Y : Type 0} → ProofFault → Result Y (ℕ × Fault) → Type 0
Fails e read = FailsAt e.line e.fault read

-- what was answered, seen by view, is what reading gives, unless memory ran out
abbrev pub Gives : {X Y : Type 0} → (X → Y) → Result X ProofFault → Result Y (ℕ × Fault) → Type 0
Gives view (Ok x) read = read ≡ Ok (view x)
Gives view (Err e) read = Fails e read
