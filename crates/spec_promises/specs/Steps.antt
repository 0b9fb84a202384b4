-- The steps of a job in JSON: nothing after the first faulty one counts.
use Rattle.std.specs.Prelude.{◌≡◌, ◌+◌, List, [], ◌∷◌, ◌++◌, length, codes, Ok, Err}
use Rattle.mal_base.specs.Asks.{Terms}
use Rattle.mal_base.specs.Limits.{limits}
use Rattle.spec_script.specs.Script.{ScriptedJob}
use Rattle.spec_script.specs.declared.step.Step.{Step}
use Rattle.serde_json.specs.Data.{Data}
use Rattle.spec_json.specs.Reading.{all_stepped, read_text, with_steps}
use Rattle.spec_json.specs.Shape.{steps_in}
use Rattle.spec_json.specs.declared.fault.JsonFault.{JsonFault}
use Rattle.spec_json.specs.declared.fault.JsonFault.TheVariants.{Range, VarTooLarge}

-- the first fault of the steps of a job that comes after these jobs: so many values are steps, the fault is of the value
-- after them, and it is the first in each job there whose steps begin so, whatever else the job is
pub record IsFirstStep (jobs : List ScriptedJob) (d : Data) (fault : JsonFault) : Type 0 where
  pub front : List Data
  pub faulty : Data
  pub after : List Data
  pub steps : List Step
  pub parts : steps_in d ≡ front ++ faulty ∷ after
  pub before : all_stepped (length jobs + 1) [] front ≡ Ok steps
  pub first : (e : Data) (ask : Terms) (others : List Data) → steps_in e ≡ front ++ faulty ∷ others → with_steps jobs e ask ≡ Err fault

-- nothing after a faulty step counts once the steps of a job are looked at. Before that come the shape of the whole job,
-- all steps among it, its ask, its names and the number of its revisions
abbrev pub StepFaultIsFirst : Type 0
StepFaultIsFirst = (jobs : List ScriptedJob) (d : Data) (ask : Terms) (fault : JsonFault) → with_steps jobs d ask ≡ Err fault → IsFirstStep jobs d fault

-- worked examples: a variable too large before a demand out of range, and after it
pub record HasFirstSteps : Type 0 where
  pub variable : read_text limits (codes "{\"jobs\":[{\"tenant\":\"a\",\"name\":\"p\",\"priority\":1,\"demand\":1,\"slices\":4,\"steps\":[{\"variables\":1,\"clauses\":[[2]],\"assumptions\":[]},{\"priority\":5,\"demand\":65}]}]}") ≡ Err (VarTooLarge 1)
  pub demand : read_text limits (codes "{\"jobs\":[{\"tenant\":\"a\",\"name\":\"p\",\"priority\":1,\"demand\":1,\"slices\":4,\"steps\":[{\"priority\":5,\"demand\":65},{\"variables\":1,\"clauses\":[[2]],\"assumptions\":[]}]}]}") ≡ Err (Range 1)
