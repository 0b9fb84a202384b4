-- What the answers of checking say.
use Rattle.std.specs.Prelude.{◌≡◌, ℕ, Option, Some, None, Result, Ok, Err}
use Rattle.mal_check.specs.declared.fault.CheckFault.{CheckFault}
use Rattle.mal_check.specs.declared.fault.CheckFault.TheVariants as fault
use Rattle.spec_logic.specs.Refutation.{Refusal}
use Rattle.spec_logic.specs.Refutation.Refusal.{IdUsed, UnknownHint, HintNotUnit, NoContradiction}
use Rattle.mal_claim.specs.Proofs.{Verdict}
use Rattle.mal_claim.specs.Proofs.Verdict.{Verified, Refused, NoGoal}
use Rattle.mal_claim.specs.declared.denial.VerifyFault.{VerifyFault}
use Rattle.mal_claim.specs.declared.denial.VerifyFault.TheVariants as answer

-- the refusal that a fault of the checker is, none when out of memory
abbrev pub refusal_of : CheckFault → Option Refusal
refusal_of (fault.IdUsed id) = Some (IdUsed id)
refusal_of (fault.UnknownHint id) = Some (UnknownHint id)
refusal_of (fault.HintNotUnit id) = Some (HintNotUnit id)
refusal_of fault.NoContradiction = Some NoContradiction
refusal_of fault.OutOfMemory = None

-- a fault of the checker as an answer on its line
abbrev pub IsFault : ℕ → CheckFault → VerifyFault → Type 0
IsFault line (fault.IdUsed id) e = e ≡ answer.Refused line (fault.IdUsed id)
IsFault line (fault.UnknownHint id) e = e ≡ answer.Refused line (fault.UnknownHint id)
IsFault line (fault.HintNotUnit id) e = e ≡ answer.Refused line (fault.HintNotUnit id)
IsFault line fault.NoContradiction e = e ≡ answer.Refused line fault.NoContradiction
IsFault line fault.OutOfMemory e = e ≡ answer.OutOfMemory

-- the verdict is this refusal; out of memory is never told as one
abbrev pub IsVerdict : ℕ → Option Refusal → Verdict → Type 0
IsVerdict line None said = ⊥
IsVerdict line (Some refusal) said = said ≡ Refused line refusal

abbrev pub Denies : VerifyFault → Verdict → Type 0
Denies (answer.Refused line fault) said = IsVerdict line (refusal_of fault) said
Denies answer.NoGoal said = said ≡ NoGoal
Denies answer.OutOfMemory said = Unit {0}

-- Ok says that the proof is verified, any other answer but out of memory why it is not
abbrev pub Says : {X : Type 0} → Result X VerifyFault → Verdict → Type 0
Says (Ok x) said = said ≡ Verified
Says (Err e) said = Denies e said
