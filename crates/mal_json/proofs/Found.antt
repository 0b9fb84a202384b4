-- What is read is spelled, and what is spelled is read.
use Rattle.std.proofs.Common.{◌≡◌, ◌≢◌, ℕ, List, Result, Ok, Err, IfOk, MatchResult, refl, sym, ◌∙◌, ap}
use Rattle.mal_base.specs.declared.limits.Limits.{Limits}
use Rattle.spec_dimacs.specs.Reading.{◌>>=◌}
use Rattle.spec_script.specs.Script.{ScriptedJob, Scripted, spelling}
use Rattle.spec_script.specs.Reading as script
use Rattle.spec_script.specs.Formed.{IsScript}
use Rattle.spec_json.specs.Shape.{json_in}
use Rattle.spec_json.specs.Reading.{of_jobs, read_json, read_text}
use Rattle.spec_json.specs.Grammar.{Spells}
use Rattle.spec_json.proofs.Reading.{spelled-is-read, spelled-is-read-again, spelled-is-script}
use Rattle.spec_json.specs.declared.fault.JsonFault.{JsonFault}
use Rattle.spec_json.specs.declared.fault.JsonFault.TheVariants.{NotJson, Shape, Range, Duplicate, VarTooLarge, Opposite, Limit, OutOfMemory}
use Rattle.mal_json.specs.ReadResult.{Gives}

pub found_spelled : (limits : Limits) (text : List ℕ) (result : Result Scripted JsonFault) → Gives (λ s. s) result (read_text limits text) → IfOk result (λ s. Spells limits text s)
found_spelled limits text (Ok s) e = (spelled-is-read limits text s).1 e
found_spelled limits text (Err e) h = tt

pub found_formed : (limits : Limits) (text : List ℕ) (result : Result Scripted JsonFault) → Gives (λ s. s) result (read_text limits text) → IfOk result (λ s. IsScript limits s)
found_formed limits text (Ok s) e = spelled-is-script limits text s ((spelled-is-read limits text s).1 e)
found_formed limits text (Err e) h = tt

pub found_again : (limits : Limits) (text : List ℕ) (result : Result Scripted JsonFault) → Gives (λ s. s) result (read_text limits text) → IfOk result (λ s. script.read_text limits (spelling s) ≡ Ok s)
found_again limits text (Ok s) e = spelled-is-read-again limits text s ((spelled-is-read limits text s).1 e)
found_again limits text (Err e) h = tt

-- a fault is not told where a script is read
no_fault : (e : JsonFault) (read : Result Scripted JsonFault) (s : Scripted) → read ≡ Ok s → (e ≢ OutOfMemory → read ≡ Err e) → e ≡ OutOfMemory
no_fault NotJson read s h k = let no : read ≡ Err NotJson = k (λ q. cc) in absurd (cc)
no_fault (Shape job) read s h k = let no : read ≡ Err (Shape job) = k (λ q. cc) in absurd (cc)
no_fault (Range job) read s h k = let no : read ≡ Err (Range job) = k (λ q. cc) in absurd (cc)
no_fault (Duplicate job) read s h k = let no : read ≡ Err (Duplicate job) = k (λ q. cc) in absurd (cc)
no_fault (VarTooLarge job) read s h k = let no : read ≡ Err (VarTooLarge job) = k (λ q. cc) in absurd (cc)
no_fault (Opposite job var) read s h k = let no : read ≡ Err (Opposite job var) = k (λ q. cc) in absurd (cc)
no_fault (Limit job which) read s h k = let no : read ≡ Err (Limit job which) = k (λ q. cc) in absurd (cc)
no_fault OutOfMemory read s h k = refl

pub only_spelled : (limits : Limits) (text : List ℕ) (result : Result Scripted JsonFault) → Gives (λ s. s) result (read_text limits text) → (s : Scripted) → Spells limits text s → MatchResult result (λ x. x ≡ s) (λ e. e ≡ OutOfMemory)
only_spelled limits text (Ok x) e s is = ok_is x s (sym e ∙ (spelled-is-read limits text s).0 is)
  where
    ok_is : (x y : Scripted) → ◌≡◌ {A = Result Scripted JsonFault} (Ok x) (Ok y) → x ≡ y
    ok_is x y h = cc
only_spelled limits text (Err e) h s is = no_fault e (read_text limits text) s ((spelled-is-read limits text s).0 is) h

-- the jobs of a text make its script
pub jobs_exact : {A : Type 0} (view : A → List ScriptedJob) (limits : Limits) (text : List ℕ) (result : Result A JsonFault) → Gives view result (read_json limits (json_in text)) → Gives (λ v. of_jobs (view v)) result (read_text limits text)
jobs_exact view limits text (Ok v) e = ap (λ (x : Result (List ScriptedJob) JsonFault). x >>= λ jobs. Ok (of_jobs jobs)) e
jobs_exact view limits text (Err e) h = λ other. ap (λ (x : Result (List ScriptedJob) JsonFault). x >>= λ jobs. Ok (of_jobs jobs)) (h other)

-- they are in form
pub jobs_formed : {A : Type 0} (view : A → List ScriptedJob) (limits : Limits) (text : List ℕ) (result : Result A JsonFault) → Gives (λ v. of_jobs (view v)) result (read_text limits text) → IfOk result (λ v. IsScript limits (of_jobs (view v)))
jobs_formed view limits text (Ok v) e = spelled-is-script limits text (of_jobs (view v)) ((spelled-is-read limits text (of_jobs (view v))).1 e)
jobs_formed view limits text (Err e) h = tt
