-- What the answers of reading and judging claims say.
use Rattle.std.specs.Prelude.{◌≡◌, ℕ, List, Option, Some, None, Result}
use Rattle.spec_logic.specs.Refutation.{Refusal}
use Rattle.mal_base.specs.declared.line_fault.LineFault.TheVariants.{BadLine, Dimacs, Opposite, Range}
use Rattle.spec_text.specs.Faults.{GivesBy, TellsBy}
use Rattle.spec_dimacs.specs.Rows.{rows_of}
use Rattle.mal_dimacs.specs.declared.fault.DimacsFault.{DimacsFault}
use Rattle.mal_dimacs.specs.declared.fault.DimacsFault.TheVariants as located
use Rattle.mal_script.specs.declared.fault.AssumptionFault.{AssumptionFault}
use Rattle.mal_script.specs.declared.fault.AssumptionFault.TheVariants as assumption
use Rattle.spec_lrat.specs.Reading as proof
use Rattle.mal_claim.specs.Proofs.{Verdict}
use Rattle.mal_claim.specs.Proofs.Verdict.{Refused, NoGoal}
use Rattle.mal_claim.specs.Claims as claim
use Rattle.mal_claim.specs.Claims.Fault.{NoProof, InFormula, InProof}
use Rattle.mal_claim.specs.FaultLines.{verdict_line}
use Rattle.mal_lrat.specs.declared.fault.LineFault.TheVariants as lrat
use Rattle.mal_lrat.specs.declared.fault.LineFault as declared
use Rattle.mal_claim.specs.declared.denial.VerifyFault.{VerifyFault}
use Rattle.mal_claim.specs.declared.denial.VerifyFault.TheVariants as verify
use Rattle.mal_claim.specs.Verdicts.{refusal_of}
use Rattle.mal_claim.specs.declared.opened as code
use Rattle.mal_claim.specs.declared.fault.ClaimFault.{ClaimFault}
use Rattle.mal_claim.specs.declared.fault.ClaimFault.TheVariants as claimed

-- the fault of a proof's line, none when out of memory
abbrev pub in_line : ℕ → declared.LineFault → Option claim.Fault
in_line line lrat.BadNumber = Some (InProof line proof.Fault.BadNumber)
in_line line lrat.MissingZero = Some (InProof line proof.Fault.MissingZero)
in_line line (lrat.IdNotRising last id) = Some (InProof line (proof.Fault.IdNotRising last id))
in_line line lrat.NegativeHint = Some (InProof line proof.Fault.NegativeHint)
in_line line lrat.OutOfMemory = None

-- the fault of a text, none when out of memory
abbrev pub fault_of : ClaimFault → Option claim.Fault
fault_of claimed.NoProof = Some NoProof
fault_of (claimed.Formula line fault) = Some (InFormula line fault)
fault_of (claimed.Proof fault) = in_line fault.line fault.fault
fault_of claimed.OutOfMemory = None

-- what was answered, seen by view, is what reading gives, unless memory ran out
abbrev pub Gives : {X Y : Type 0} → (X → Y) → Result X ClaimFault → Result Y claim.Fault → Type 0
Gives view answer read = GivesBy fault_of view answer read

-- the verdict on a proof of which a line is refused so, none when out of memory
abbrev pub refused : ℕ → Option Refusal → Option Verdict
refused line None = None
refused line (Some refusal) = Some (Refused line refusal)

abbrev pub verdict_in : VerifyFault → Option Verdict
verdict_in (verify.Refused line fault) = refused line (refusal_of fault)
verdict_in verify.NoGoal = Some NoGoal
verdict_in verify.OutOfMemory = None

-- the text is the line that tells the verdict
abbrev pub TellsVerdict : Option Verdict → List ℕ → Type 0
TellsVerdict verdict text = TellsBy verdict_line verdict text

-- the fault of a formula as that of its text
abbrev pub of_formula : DimacsFault → ClaimFault
of_formula (located.Fault line fault) = claimed.Formula line (Dimacs fault)
of_formula located.OutOfMemory = claimed.OutOfMemory

-- the refusal of assumptions as the fault of this line
abbrev pub IsAssumed : ℕ → AssumptionFault → ClaimFault → Type 0
IsAssumed line assumption.BadLine e = e ≡ claimed.Formula line BadLine
IsAssumed line assumption.Range e = e ≡ claimed.Formula line Range
IsAssumed line (assumption.Opposite var) e = e ≡ claimed.Formula line (Opposite var)
IsAssumed line assumption.OutOfMemory e = e ≡ claimed.OutOfMemory

-- what was answered after the formula: the assumptions, and the text of the proof
abbrev pub seen_assumed : List ℕ → List ℕ → claim.Assumed
seen_assumed lits text = record { assumptions = lits; rows = rows_of text }

-- a text up to the line `proof`, without where it lies in memory
abbrev pub opened_seen : code.Opened.Opened → claim.Opened
opened_seen o = record { formula = o.formula; assumed = seen_assumed o.assumptions.items o.proof.now }
