use Rattle.std.specs.Prelude.{ℕ, ◌+◌, ◌||◌, ◌==◌, not, nat_lt, List, [], ◌∷◌, ◌++◌, map, filter, fold, find, Option, Some, None, if◌then◌else◌}
use Rattle.std.specs.List.{list_any}
use Rattle.mal_base.specs.Asks.{Terms}
use Rattle.spec_job.specs.SoloMachine.{SoloMachine, solo, is_live, is_exchange_due, startable, place_at}
use Rattle.spec_job.specs.KeyedJob.{Key, KeyedJob}
use Rattle.spec_node.specs.Load.{counted}
use Rattle.spec_hall.specs.Events.{Event, Open, Balance, Start, Finish, Leave, Arrive}
use Rattle.spec_hall.specs.Own.{own, is_key}

-- a live job with what the balancing reads of its ask
pub record Live : Type 0 where
  pub key : Key
  pub priority : ℕ
  pub demand : ℕ

-- the keys of the jobs that are there after one more event, by opening or last arrival
abbrev pub keys_step : List Key → Event → List Key
keys_step keys (Open k ask) = keys ++ k ∷ []
keys_step keys (Leave k) = filter (λ j. not (is_key k j)) keys
keys_step keys (Arrive k brought) = keys ++ k ∷ []
keys_step keys event = keys

-- the keys of the jobs that are there, by opening or last arrival
abbrev pub keys_of : List Event → List Key
keys_of history = fold keys_step [] history

-- a job of a history with its machine, run alone on its own events
abbrev pub titled : List Event → Key → KeyedJob
titled history k = record { key = k; state = solo (own k history) }

-- each job that is there as its machine run alone leaves it, by opening or last arrival
abbrev pub states : List Event → List KeyedJob
states history = map (titled history) (keys_of history)

-- the jobs that are live
abbrev pub live_ones : List KeyedJob → List KeyedJob
live_ones jobs = filter (λ t. is_live t.state) jobs

-- what the balancing reads of a job
abbrev pub live_of : KeyedJob → Live
live_of t = record { key = t.key; priority = t.state.ask.priority; demand = t.state.ask.demand }

-- the live jobs with priority and demand, by opening
abbrev pub lives : List KeyedJob → List Live
lives jobs = map live_of (live_ones jobs)

-- the asks of the live jobs, by opening
abbrev pub live_asks : List KeyedJob → List Terms
live_asks jobs = map (λ t. t.state.ask) (live_ones jobs)

-- the live jobs at the last balancing after one more event, none known from a leave or an arrival on
abbrev pub last_after : List Event → Option (List Live) → Event → Option (List Live)
last_after past last (Balance shares) = Some (lives (states past))
last_after past last (Leave k) = None
last_after past last (Arrive k brought) = None
last_after past last event = last

-- the live jobs at the last balancing of the events that follow a past, where they were so far
abbrev pub balanced_from : List Event → Option (List Live) → List Event → Option (List Live)
balanced_from past last [] = last
balanced_from past last (e ∷ es) = balanced_from (past ++ e ∷ []) (last_after past last e) es

-- the live jobs at the last balancing, no jobs at first; None from a leave or an arrival to the next balancing
abbrev pub balanced : List Event → Option (List Live)
balanced history = balanced_from [] (Some []) history

-- a start that has not ended: its worker, its job and its node
pub record LeaseOut : Type 0 where
  pub worker : ℕ
  pub key : Key
  pub index : ℕ

-- the starts that are out after one more event
abbrev pub leases_step : List LeaseOut → Event → List LeaseOut
leases_step out (Start k index worker) = out ++ record { worker = worker; key = k; index = index } ∷ []
leases_step out (Finish k index worker outcome) = filter (λ l. nat_lt l.worker worker || nat_lt worker l.worker) out
leases_step out event = out

-- the starts that are out, oldest first
abbrev pub leases : List Event → List LeaseOut
leases history = fold leases_step [] history

-- the start that a worker has out
abbrev pub lease_of : ℕ → List LeaseOut → Option LeaseOut
lease_of worker out = find (λ l. l.worker == worker) out

-- the first job of which an exchange is due
abbrev pub exchange_due : List KeyedJob → Option KeyedJob
exchange_due jobs = find (λ t. is_exchange_due t.state) jobs

-- a node that may start: its job's place by opening, its index, and how often it was started
pub record Candidate : Type 0 where
  pub job : ℕ
  pub index : ℕ
  pub starts : ℕ

-- a job's nodes that may start, by index
abbrev pub candidates_of : ℕ → SoloMachine → List Candidate
candidates_of job s = map (λ i. record { job = job; index = i; starts = (place_at s i).starts }) (filter (startable s) (counted 0 s.volume))

-- the nodes that may start, by opening of their jobs and by index; the first job has this place
abbrev pub candidates_from : ℕ → List KeyedJob → List Candidate
candidates_from job [] = []
candidates_from job (t ∷ ts) = candidates_of job t.state ++ candidates_from (job + 1) ts

-- the one with fewer starts, of equals the earlier one
abbrev pub fewer : Option Candidate → Candidate → Option Candidate
fewer None c = Some c
fewer (Some b) c = if nat_lt c.starts b.starts then Some c else Some b

-- the node that starts next: that with the fewest starts, then by its job's opening, then by index
abbrev pub picked : List KeyedJob → Option Candidate
picked jobs = fold fewer None (candidates_from 0 jobs)

-- keys with one more, where it is not among them
abbrev pub with_key : Key → List Key → List Key
with_key k names = if list_any (is_key k) names then names else names ++ k ∷ []

-- the keys that a hall ever had after one more event
abbrev pub names_step : List Key → Event → List Key
names_step names (Open k ask) = with_key k names
names_step names (Arrive k brought) = with_key k names
names_step names event = names

-- the keys that a hall ever had, by their first coming
abbrev pub names_of : List Event → List Key
names_of history = fold names_step [] history

-- how many openings and arrivals there were, and the number of the last one of a job, 0 before it
pub record Coming : Type 0 where
  pub all : ℕ
  pub last : ℕ

-- openings and arrivals are numbered 0, 1, .. in a history
abbrev pub coming : Key → Coming → Key → Coming
coming k n j = record { all = n.all + 1; last = if is_key k j then n.all else n.last }

-- the openings and arrivals as they concern a job, after one more event
abbrev pub coming_step : Key → Coming → Event → Coming
coming_step k n (Open j ask) = coming k n j
coming_step k n (Arrive j brought) = coming k n j
coming_step k n event = n

-- the openings and arrivals of a history as they concern a job
abbrev pub comings : Key → List Event → Coming
comings k history = fold (coming_step k) (record { all = 0; last = 0 }) history

-- the number of a job: how many openings and arrivals came before its last one
abbrev pub job_number : Key → List Event → ℕ
job_number k history = (comings k history).last

-- how many openings and arrivals there were after one more event
abbrev pub comings_step : ℕ → Event → ℕ
comings_step n (Open k ask) = n + 1
comings_step n (Arrive k brought) = n + 1
comings_step n event = n

-- how many openings and arrivals a history has
abbrev pub comings_in : List Event → ℕ
comings_in history = fold comings_step 0 history
