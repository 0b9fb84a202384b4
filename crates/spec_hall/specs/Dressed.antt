use Rattle.std.specs.Prelude.{◌≡◌, ℕ, false, ◌-◌, List, [], map, get_or}
use Rattle.std.specs.List.{list_any}
use Rattle.std.specs.Option.{option_map_or}
use Rattle.mal_revision.specs.Posted.{Posted}
use Rattle.mal_history.specs.declared.event.Event as written
use Rattle.mal_history.specs.declared.event.Event.TheVariants as of
use Rattle.spec_job.specs.KeyedJob.{Key, KeyedJob}
use Rattle.spec_hall.specs.Events.{Event, Open, Revise, Reask, Close, Balance, Start, Finish, Exchange, Leave, Arrive, bare, moves}
use Rattle.spec_hall.specs.States.{states}
use Rattle.spec_hall.specs.Legal.{Legal, job_of}

-- a key from the two names
abbrev pub keyed : List ℕ → List ℕ → Key
keyed tenant job = record { tenant = tenant; job = job }

-- a revision that says nothing
abbrev pub no_revision : Posted
no_revision = record { variables = 0; clauses = []; assumptions = [] }

-- the revisions of the job of a key, none where there is no such job
abbrev pub revisions_of : Key → List KeyedJob → List Posted
revisions_of k jobs = option_map_or (λ t. t.state.revisions) (job_of k jobs) []

-- an event as it is written down, a Revise with the job's revision of that number; an arrival brings nothing
abbrev pub dressed : List KeyedJob → written.Event → Event
dressed jobs (of.Open tenant job ask) = Open (keyed tenant job) ask
dressed jobs (of.Revise tenant job number) = Revise (keyed tenant job) number (get_or (revisions_of (keyed tenant job) jobs) (number - 1) no_revision)
dressed jobs (of.Reask tenant job w) = Reask (keyed tenant job) w
dressed jobs (of.Close tenant job) = Close (keyed tenant job)
dressed jobs (of.Balance volumes) = Balance volumes
dressed jobs (of.Start tenant job index worker) = Start (keyed tenant job) index worker
dressed jobs (of.Finish tenant job index worker outcome) = Finish (keyed tenant job) index worker outcome
dressed jobs (of.Exchange tenant job) = Exchange (keyed tenant job)
dressed jobs (of.Leave tenant job) = Leave (keyed tenant job)
dressed jobs (of.Arrive tenant job) = Arrive (keyed tenant job) []

-- the events of a legal history in which no job moves are read off what is written down and off the jobs
abbrev pub LegalIsDressed : Type 0
LegalIsDressed = (workers : ℕ) (history : List Event) → Legal workers history → list_any moves history ≡ false → map (dressed (states history)) (map bare history) ≡ history
