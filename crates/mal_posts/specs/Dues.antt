-- What a tenant has still to post by a script.
use Rattle.std.specs.Prelude.{◌≡◌, ℕ, ◌+◌, List, [], ◌∷◌, ◌++◌, length, filter, flat_map, take, drop, slice_get, Some}
use Rattle.std.specs.Option.{option_map_or}
use Rattle.mal_history.specs.declared.post.PostKind.{PostKind}
use Rattle.mal_history.specs.declared.post.PostKind.TheVariants as kinds
use Rattle.mal_posts.specs.Course.{Course}
use Rattle.mal_posts.specs.declared.cursor.Due.{Due}
use Rattle.mal_posts.specs.declared.cursor.Due.TheVariants.{Opening, Step, Closing}
use Rattle.mal_posts.specs.declared.cursor.Left.{Left}
use Rattle.spec_hall.specs.Events.{Event, Open, Revise, Reask, Close}
use Rattle.spec_hall.specs.Own.{is_text}
use Rattle.spec_job.specs.KeyedJob.{Key}
use Rattle.spec_run.specs.Complete.{job_events, key_of_job, step_events}
use Rattle.spec_script.specs.Script.{ScriptedJob, revisions_in}
use Rattle.spec_script.specs.declared.step.Step as script
use Rattle.spec_script.specs.declared.step.Step.TheVariants as steps

-- all events that are due, in their order
abbrev pub due : Course → List Event
due c = c.openings ++ c.others

-- the event of a job's step, where the job's next revision has this number
abbrev pub step_event : Key → ℕ → script.Step → Event
step_event k number (steps.Revise r) = Revise k number r
step_event k number (steps.Reask weight) = Reask k weight

-- the event of what is due
abbrev pub event_of : Due → Event
event_of (Opening j) = Open (key_of_job j.now) j.now.ask
event_of (Step j s number) = step_event (key_of_job j.now) number s.now
event_of (Closing j) = Close (key_of_job j.now)

-- its job
abbrev pub job_of : Due → ScriptedJob
job_of (Opening j) = j.now
job_of (Step j s number) = j.now
job_of (Closing j) = j.now

-- what is posted of the job by a step
abbrev pub step_kind : ℕ → script.Step → PostKind
step_kind number (steps.Revise r) = kinds.Revision number
step_kind number (steps.Reask weight) = kinds.Reasking weight

-- what is posted of the job by what is due
abbrev pub kind_of : Due → PostKind
kind_of (Opening j) = kinds.Opening j.now.ask
kind_of (Step j s number) = step_kind number s.now
kind_of (Closing j) = kinds.Closing

-- the jobs of a tenant
abbrev pub of_tenant : List ℕ → List ScriptedJob → List ScriptedJob
of_tenant tenant jobs = filter (λ j. is_text tenant j.tenant) jobs

-- the job at a place, and the later jobs of its tenant
abbrev pub jobs_from : List ScriptedJob → ℕ → List ScriptedJob
jobs_from jobs place = option_map_or (λ j. j ∷ of_tenant j.tenant (drop (place + 1) jobs)) (slice_get jobs place) []

-- the number of a job's next revision after so many of its steps
abbrev pub number_behind : ℕ → ScriptedJob → ℕ
number_behind n j = length (revisions_in (take n j.steps)) + 1

-- what a job posts after so many of its steps: the others, and its closing
abbrev pub events_behind : ℕ → ScriptedJob → List Event
events_behind n j = step_events (key_of_job j) (number_behind n j) (drop n j.steps) ++ Close (key_of_job j) ∷ []

-- what is left: the rest of the job at a place, and the later jobs of its tenant
abbrev pub left_in : List ScriptedJob → Left → List Event
left_in jobs l = option_map_or (λ j. events_behind l.posted j ++ flat_map job_events (of_tenant j.tenant (drop (l.job + 1) jobs))) (slice_get jobs l.job) []

-- the next revision of the job at a place has this number
abbrev pub IsNumbered : List ScriptedJob → Left → ℕ → Type 0
IsNumbered jobs l number = (j : ScriptedJob) → slice_get jobs l.job ≡ Some j → number ≡ number_behind l.posted j
