-- What the answers of the readers of a script's parts say.
use Rattle.std.specs.Prelude.{◌≡◌, ℕ, List, Result, Ok, Err}
use Rattle.spec_script.specs.FaultLines.{fault_line}
use Rattle.spec_script.specs.Script.{ScriptedJob, Scripted}
use Rattle.mal_base.specs.declared.line_fault.LineFault.{LineFault}
use Rattle.mal_base.specs.declared.line_fault.LineFault.TheVariants as line
use Rattle.mal_script.specs.declared.fault.LineRefusal.{LineRefusal}
use Rattle.mal_script.specs.declared.fault.LineRefusal.TheVariants as refusal
use Rattle.mal_script.specs.declared.fault.ScriptFault.{ScriptFault}
use Rattle.mal_script.specs.declared.fault.ScriptFault.TheVariants as script
use Rattle.mal_script.specs.declared.fault.AssumptionFault.{AssumptionFault}
use Rattle.mal_script.specs.declared.fault.AssumptionFault.TheVariants as assumption

-- the script of these jobs
abbrev pub of_jobs : List ScriptedJob → Scripted
of_jobs jobs = record { jobs = jobs }

-- reading gives the fault of the refusal, of which out of memory claims nothing
abbrev pub Fails : {Y : Type 0} → LineRefusal → Result Y LineFault → Type 0
Fails refusal.OutOfMemory read = Unit {0}
Fails (refusal.Fault fault) read = read ≡ Err fault

-- what was answered, seen by view, is what reading gives, unless memory ran out
abbrev pub Gives : {X Y : Type 0} → (X → Y) → Result X LineRefusal → Result Y LineFault → Type 0
Gives view (Ok x) read = read ≡ Ok (view x)
Gives view (Err e) read = Fails e read

-- what changes a value in place leaves what reading gives, unless memory ran out
abbrev pub Leaves : {U Y : Type 0} → Result U LineRefusal → Y → Result Y LineFault → Type 0
Leaves (Ok u) left read = read ≡ Ok left
Leaves (Err e) left read = Fails e read

-- the same with the fault's line
abbrev pub FailsAt : {Y : Type 0} → ScriptFault → Result Y (ℕ × LineFault) → Type 0
FailsAt (script.Line n fault) read = read ≡ Err (n, fault)
FailsAt script.OutOfMemory read = Unit {0}

abbrev pub GivesAt : {X Y : Type 0} → (X → Y) → Result X ScriptFault → Result Y (ℕ × LineFault) → Type 0
GivesAt view (Ok x) read = read ≡ Ok (view x)
GivesAt view (Err e) read = FailsAt e read

-- the same of the words of assumptions
abbrev pub FailsAssumed : {Y : Type 0} → AssumptionFault → Result Y LineFault → Type 0
FailsAssumed assumption.BadLine read = read ≡ Err line.BadLine
FailsAssumed assumption.Range read = read ≡ Err line.Range
FailsAssumed (assumption.Opposite var) read = read ≡ Err (line.Opposite var)
FailsAssumed assumption.OutOfMemory read = Unit {0}

abbrev pub GivesAssumed : {X Y : Type 0} → (X → Y) → Result X AssumptionFault → Result Y LineFault → Type 0
GivesAssumed view (Ok x) read = read ≡ Ok (view x)
GivesAssumed view (Err e) read = FailsAssumed e read

-- the same of the number of a line and what was refused there
abbrev pub RefusedAt : ℕ → LineRefusal → ScriptFault → Type 0
RefusedAt n refusal.OutOfMemory refused = refused ≡ script.OutOfMemory
RefusedAt n (refusal.Fault fault) refused = FailsAt {Y = List ℕ} refused (Err (n, fault))

-- the refusal of assumptions as that of their line
abbrev pub OfAssumptions : AssumptionFault → LineRefusal → Type 0
OfAssumptions assumption.OutOfMemory refused = refused ≡ refusal.OutOfMemory
OfAssumptions assumption.BadLine refused = refused ≡ refusal.Fault line.BadLine
OfAssumptions assumption.Range refused = refused ≡ refusal.Fault line.Range
OfAssumptions (assumption.Opposite var) refused = refused ≡ refusal.Fault (line.Opposite var)

-- the text is the line that tells the fault
abbrev pub Tells : ScriptFault → List ℕ → Type 0
Tells (script.Line n fault) text = text ≡ fault_line n fault
Tells script.OutOfMemory text = ⊥
