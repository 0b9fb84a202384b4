-- What is read is spelled, and what is spelled is read.
use Rattle.std.proofs.Common.{◌≡◌, ℕ, List, Result, Ok, Err, IfOk, MatchResult, refl, sym, ◌∙◌, subst}
use Rattle.mal_base.specs.declared.line_fault.LineFault.{LineFault}
use Rattle.mal_base.specs.declared.limits.Limits.{Limits}
use Rattle.spec_script.specs.Script.{ScriptedJob, Scripted, spelling}
use Rattle.spec_script.specs.Reading.{read_text}
use Rattle.spec_script.specs.Grammar.{Spells}
use Rattle.spec_script.specs.Within.{IsWithin}
use Rattle.spec_script.specs.Formed.{IsScript}
use Rattle.spec_script.proofs.Reading.{read-spelled, spelled-read}
use Rattle.spec_script.proofs.Bounds.{spelled-within}
use Rattle.spec_script.proofs.Again.{written-spelled}
use Rattle.spec_script.proofs.Formed.{spelled-script}
use Rattle.mal_script.specs.declared.fault.ScriptFault.{ScriptFault}
use Rattle.mal_script.specs.declared.fault.ScriptFault.TheVariants as script
use Rattle.mal_script.specs.ReadResult.{FailsAt, GivesAt, of_jobs}

pub found-spelled : (limits : Limits) (text : List ℕ) (result : Result Scripted ScriptFault) → GivesAt (λ s. s) result (read_text limits text) → IfOk result (λ s. Spells limits text s)
found-spelled limits text (Ok s) e = read-spelled limits text s e
found-spelled limits text (Err e) h = tt

pub found-within : (limits : Limits) (text : List ℕ) (result : Result Scripted ScriptFault) → GivesAt (λ s. s) result (read_text limits text) → IfOk result (λ s. IsWithin limits s)
found-within limits text (Ok s) e = spelled-within limits text s (read-spelled limits text s e)
found-within limits text (Err e) h = tt

pub found-formed : (limits : Limits) (text : List ℕ) (result : Result Scripted ScriptFault) → GivesAt (λ s. s) result (read_text limits text) → IfOk result (λ s. IsScript limits s)
found-formed limits text (Ok s) e = spelled-script limits text s (read-spelled limits text s e)
found-formed limits text (Err e) h = tt

-- the jobs that are read are in form
pub jobs-formed : {A : Type 0} (view : A → List ScriptedJob) (limits : Limits) (text : List ℕ) (result : Result A ScriptFault) → GivesAt (λ v. of_jobs (view v)) result (read_text limits text) → IfOk result (λ v. IsScript limits (of_jobs (view v)))
jobs-formed view limits text (Ok v) e = spelled-script limits text (of_jobs (view v)) (read-spelled limits text (of_jobs (view v)) e)
jobs-formed view limits text (Err e) h = tt

-- a fault is not told where a script is read
no-fault : (e : ScriptFault) (read : Result Scripted (ℕ × LineFault)) (s : Scripted) → read ≡ Ok s → FailsAt e read → e ≡ script.OutOfMemory
no-fault (script.Line n fault) read s h k = absurd (cc)
no-fault script.OutOfMemory read s h k = refl

pub only-spelled : (limits : Limits) (text : List ℕ) (result : Result Scripted ScriptFault) → GivesAt (λ s. s) result (read_text limits text) → (s : Scripted) → Spells limits text s → MatchResult result (λ x. x ≡ s) (λ e. e ≡ script.OutOfMemory)
only-spelled limits text (Ok x) e s is = let h = spelled-read limits text s is in ok_is x s (sym e ∙ h)
  where
    ok_is : (x y : Scripted) → ◌≡◌ {A = Result Scripted (ℕ × LineFault)} (Ok x) (Ok y) → x ≡ y
    ok_is x y h = cc
only-spelled limits text (Err e) h s is = no-fault e (read_text limits text) s (spelled-read limits text s is) h

-- the script of the text that it is written as is answered
pub again-read : (limits : Limits) (text : List ℕ) (result : Result Scripted ScriptFault) → GivesAt (λ s. s) result (read_text limits text) → (s : Scripted) → IsScript limits s → text ≡ spelling s → MatchResult result (λ x. x ≡ s) (λ e. e ≡ script.OutOfMemory)
again-read limits text result e s is q = only-spelled limits text result e s (subst (λ (t : List ℕ). Spells limits t s) (sym q) (written-spelled limits s is))
