-- What the answers of a check say.
use Rattle.std.specs.Prelude.{◌≡◌, ℕ, List, ◌++◌, Option, Some, None, Result, Ok, Err}
use Rattle.spec_text.specs.Faults.{Fails}
use Rattle.spec_logic.specs.Derivation.{Holding}
use Rattle.spec_logic.specs.Logic.{IsUnsatisfiable}
use Rattle.spec_logic.specs.Refutation.{IsRefutation}
use Rattle.mal_claim.specs.Proofs.{Numbered, Verdict, bare, verdict_from}
use Rattle.mal_claim.specs.Proofs.Verdict.{Verified}
use Rattle.mal_claim.specs.Claims.{Claim, Fault}
use Rattle.mal_claim.specs.Grammar.{Spells}
use Rattle.mal_claim.specs.ReadResult.{fault_of, verdict_in}
use Rattle.mal_claim.specs.declared.denial.VerifyFault.{VerifyFault}
use Rattle.mal_claim.specs.declared.denial.Denial.{Denial}
use Rattle.mal_claim.specs.declared.denial.Denial.TheVariants as denial

-- this verdict is said; none is out of memory, which claims nothing
abbrev pub IsSaid : Option Verdict → Result Verdict Fault → Type 0
IsSaid None said = Unit {0}
IsSaid (Some verdict) said = said ≡ Ok verdict

abbrev pub DeniedAs : Denial → Result Verdict Fault → Type 0
DeniedAs (denial.NoClaim fault) said = Fails (fault_of fault) said
DeniedAs (denial.NotVerified fault) said = IsSaid (verdict_in fault) said

-- what was answered is what is said, unless memory ran out: Ok that the proof is verified, any other answer why it is not
abbrev pub Judges : {X : Type 0} → Result X Denial → Result Verdict Fault → Type 0
Judges (Ok x) said = said ≡ Ok Verified
Judges (Err e) said = DeniedAs e said

-- a text spells a claim the lines of whose proof refute its formula under its assumptions, so nothing satisfies both
abbrev pub IsVerified : List ℕ → Type 0
IsVerified text =
    (c : Claim) × Spells text c × IsRefutation c.formula.clauses c.assumptions (bare c.lines) × IsUnsatisfiable c.formula.clauses c.assumptions

-- whatever lines follow these ones, the verdict on all of them by the first checker is that on the others by the second
abbrev pub IsAlike : List Numbered → Holding → List (Option (List ℕ)) → Holding → List (Option (List ℕ)) → Type 0
IsAlike lines held added held' added' =
    (assumptions : List ℕ) (others : List Numbered) → verdict_from held added assumptions (lines ++ others) ≡ verdict_from held' added' assumptions others

-- whatever lines follow these ones, this is the verdict on all of them, unless it is out of memory
abbrev pub IsVerdictOn : Option Verdict → List Numbered → Holding → List (Option (List ℕ)) → Type 0
IsVerdictOn None lines held added = Unit {0}
IsVerdictOn (Some verdict) lines held added = (assumptions : List ℕ) (others : List Numbered) → verdict_from held added assumptions (lines ++ others) ≡ verdict

abbrev pub Explains : VerifyFault → List Numbered → Holding → List (Option (List ℕ)) → Type 0
Explains e lines held added = IsVerdictOn (verdict_in e) lines held added
