use Rattle.std.specs.Prelude.{◌≡◌, ℕ, ◌+◌, Bool, false, List, [], ◌∷◌, ◌++◌, map, filter, flat_map}
use Rattle.std.specs.List.{list_any}
use Rattle.spec_job.specs.KeyedJob.{Key}
use Rattle.spec_hall.specs.Events.{Event, Open, Revise, Reask, Close, moves}
use Rattle.spec_hall.specs.Own.{is_text}
use Rattle.spec_hall.specs.States.{states, lives, leases}
use Rattle.spec_script.specs.Script.{ScriptedJob, Scripted}
use Rattle.spec_script.specs.declared.step.Step.{Step}
use Rattle.spec_script.specs.declared.step.Step.TheVariants as steps

-- whether a tenant posted the event
abbrev pub is_post_of : List ℕ → Event → Bool
is_post_of tenant (Open k ask) = is_text tenant k.tenant
is_post_of tenant (Revise k number r) = is_text tenant k.tenant
is_post_of tenant (Reask k weight) = is_text tenant k.tenant
is_post_of tenant (Close k) = is_text tenant k.tenant
is_post_of tenant event = false

-- the key of a script's job
abbrev pub key_of_job : ScriptedJob → Key
key_of_job j = record { tenant = j.tenant; job = j.name }

-- the events of a job's steps, of which the next revision has this number
abbrev pub step_events : Key → ℕ → List Step → List Event
step_events k number [] = []
step_events k number (steps.Revise r ∷ rest) = Revise k number r ∷ step_events k (number + 1) rest
step_events k number (steps.Reask weight ∷ rest) = Reask k weight ∷ step_events k number rest

-- a job's steps and its closing
abbrev pub job_events : ScriptedJob → List Event
job_events j = step_events (key_of_job j) 1 j.steps ++ Close (key_of_job j) ∷ []

-- the openings of jobs
abbrev pub open_events : List ScriptedJob → List Event
open_events jobs = map (λ j. Open (key_of_job j) j.ask) jobs

-- a tenant's jobs in a script
abbrev pub jobs_of_tenant : List ℕ → Scripted → List ScriptedJob
jobs_of_tenant tenant s = filter (λ j. is_text tenant j.tenant) s.jobs

-- what a tenant posts by a script: its openings, then job by job the steps and the closing
abbrev pub posts_of : List ℕ → Scripted → List Event
posts_of tenant s = open_events (jobs_of_tenant tenant s) ++ flat_map job_events (jobs_of_tenant tenant s)

-- all that a script posts: the openings, then job by job the steps and the closing
abbrev pub script_events : Scripted → List Event
script_events s = open_events s.jobs ++ flat_map job_events s.jobs

-- a history is complete for a script: each tenant posted just what the script says, in its order; every revision is
-- answered, nothing is out, and no job has left or arrived
pub record IsComplete (s : Scripted) (history : List Event) : Type 0 where
  pub posts : (tenant : List ℕ) → filter (is_post_of tenant) history ≡ posts_of tenant s
  pub answered : lives (states history) ≡ []
  pub home : leases history ≡ []
  pub stay : list_any moves history ≡ false
