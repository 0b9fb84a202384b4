use Rattle.std.specs.Prelude.{◌≡◌, ℕ, List, [], ◌∷◌, map, get_or, Some}
use Rattle.std.specs.List.{All}
use Rattle.mal_hall.specs.HallView.{HallView}
use Rattle.mal_pool.specs.declared.answering.Made.{Made}
use Rattle.spec_job.specs.Replies.{reply}
use Rattle.spec_job.specs.SoloMachine.{solo}
use Rattle.spec_job.specs.KeyedJob.{KeyedJob}
use Rattle.spec_hall.specs.Events.{Event}
use Rattle.spec_hall.specs.Legal.{Legal, job_of}
use Rattle.spec_hall.specs.Own.{own}
use Rattle.spec_hall.specs.States.{states}
use Rattle.spec_run.specs.Run.{text_or_none, job_replies}
use Rattle.spec_run.specs.Complete.{IsComplete, key_of_job}
use Rattle.spec_script.specs.Script.{ScriptedJob, Scripted}

-- a job of a script is known to a hall
abbrev pub IsKnown : List Event → ScriptedJob → Type 0
IsKnown history j = (t : KeyedJob) × (job_of (key_of_job j) (states history) ≡ Some t)

-- each job of a script is known to a hall
abbrev pub AreKnown : List Event → List ScriptedJob → Type 0
AreKnown history [] = Unit {0}
AreKnown history (j ∷ js) = IsKnown history j × AreKnown history js

-- a hall of so many workers has run a script: its history is legal and complete for the script, and it knows the jobs
pub record HasRun (workers : ℕ) (s : Scripted) (h : HallView) : Type 0 where
  pub workers_are : h.workers ≡ workers
  pub legal : Legal h.workers h.events
  pub complete : IsComplete s h.events
  pub known : AreKnown h.events s.jobs

-- the reply to a job's revision of this number
abbrev pub reply_to : List Event → ScriptedJob → ℕ → List ℕ
reply_to history j number = text_or_none (reply (key_of_job j) number (solo (own (key_of_job j) history)))

-- the replies to the job at a place of a script, nothing after its last
abbrev pub replies_at : List Event → List ScriptedJob → ℕ → List ℕ
replies_at history jobs place = get_or (map (job_replies history) jobs) place []

-- what was made of the replies to a script: each text is the replies to the job at its place
abbrev pub AreMade : List Event → List ScriptedJob → List Made → Type 0
AreMade history jobs made = All (λ m. m.text.items ≡ replies_at history jobs m.place) made
