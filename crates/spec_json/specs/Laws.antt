-- What holds of every text, in the form in which the law functions state it.
use Rattle.std.specs.Prelude.{◌≡◌, ℕ, ◌↔◌, List, [], ◌∷◌, ◌++◌, Ok, Err}
use Rattle.mal_base.specs.declared.limits.Limits.{Limits}
use Rattle.spec_script.specs.Script.{ScriptedJob, Scripted, spelling}
use Rattle.spec_script.specs.Formed.{IsScript}
use Rattle.spec_script.specs.Reading as script
use Rattle.serde_json.specs.Data.{Data}
use Rattle.spec_json.specs.Grammar.{Spells}
use Rattle.spec_json.specs.Reading.{read_text, with_jobs}
use Rattle.spec_json.specs.declared.fault.JsonFault.{JsonFault}

-- a text spells a script exactly where reading gives it: no text spells two scripts, or has a first fault and spells
-- one
abbrev pub SpelledIsRead : Type 0
SpelledIsRead = (limits : Limits) (text : List ℕ) (s : Scripted) → Spells limits text s ↔ (read_text limits text ≡ Ok s)

-- what a text spells is a script in form
abbrev pub SpelledIsScript : Type 0
SpelledIsScript = (limits : Limits) (text : List ℕ) (s : Scripted) → Spells limits text s → IsScript limits s

-- so it is read again from the one text that it is written as
abbrev pub SpelledIsReadAgain : Type 0
SpelledIsReadAgain = (limits : Limits) (text : List ℕ) (s : Scripted) → Spells limits text s → script.read_text limits (spelling s) ≡ Ok s

-- the first fault of some values of jobs: so many of them are jobs, the fault is of the value after them, and it is the
-- first whatever stands after this one
pub record IsFirst (limits : Limits) (ds : List Data) (fault : JsonFault) : Type 0 where
  pub front : List Data
  pub faulty : Data
  pub behind : List Data
  pub jobs : List ScriptedJob
  pub parts : ds ≡ front ++ faulty ∷ behind
  pub before : with_jobs limits [] front ≡ Ok jobs
  pub first : (others : List Data) → with_jobs limits [] (front ++ faulty ∷ others) ≡ Err fault

-- nothing after the first faulty job counts
abbrev pub FaultIsFirst : Type 0
FaultIsFirst = (limits : Limits) (ds : List Data) (fault : JsonFault) → with_jobs limits [] ds ≡ Err fault → IsFirst limits ds fault
