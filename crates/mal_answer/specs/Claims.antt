-- The complaints about claims.
use Rattle.std.specs.Prelude.{◌≡◌, ℕ, List}
use Rattle.spec_text.specs.Faults.{TellsBy}
use Rattle.mal_claim.specs.ReadResult.{TellsVerdict, fault_of, verdict_in}
use Rattle.mal_claim.specs.declared.fault.ClaimFault.{ClaimFault}
use Rattle.mal_answer.specs.Answers.{Complains, NoLine}
use Rattle.mal_answer.specs.Commands.{IsProved}
use Rattle.mal_answer.specs.declared.answer.Complaint.{Complaint}
use Rattle.mal_claim.specs.declared.denial.VerifyFault.{VerifyFault}
use Rattle.mal_claim.specs.Proofs.{verdict_of}
use Rattle.mal_claim.specs.Claims.{Claim}
use Rattle.mal_claim.specs.FaultLines.{fault_line, verdict_line}

-- the complaint tells the fault of a text, or memory ran out
abbrev pub TellsFault : ClaimFault → Complaint → Type 0
TellsFault fault complaint = Complains (TellsBy fault_line (fault_of fault)) NoLine complaint

-- the complaint tells why a proof is none, or memory ran out
abbrev pub TellsRefusal : VerifyFault → Complaint → Type 0
TellsRefusal fault complaint = Complains NoLine (TellsVerdict (verdict_in fault)) complaint

-- the line tells why a claim is not verified
abbrev pub TellsUnproved : Claim → List ℕ → Type 0
TellsUnproved c line = (IsProved c → ⊥) × (line ≡ verdict_line (verdict_of c.formula.clauses c.assumptions c.lines))
