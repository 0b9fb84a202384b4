-- No two histories are written as one text.
use Rattle.std.specs.Prelude.{◌≡◌, ◌≢◌, ℕ, ◌<◌, ◌^◌, List, [], ◌∷◌, codes}
use Rattle.std.specs.List.{AllByRecursion}
use Rattle.mal_base.specs.declared.verdict.Outcome.{Outcome}
use Rattle.mal_base.specs.declared.verdict.Outcome.TheVariants.{Ran, Lost}
use Rattle.mal_base.specs.declared.profile.Profile.{Profile}
use Rattle.mal_base.specs.declared.profile.Profile.TheVariants.{Plain, Lean}
use Rattle.spec_text.specs.Lines.{IsClean}
use Rattle.mal_history.specs.declared.event.Event.{Event}
use Rattle.mal_history.specs.declared.event.Event.TheVariants.{Open, Revise, Reask, Close, Balance, Start, Finish, Exchange, Leave, Arrive}
use Rattle.mal_history.specs.declared.event.Share.{Share}
use Rattle.mal_history.specs.Text.{history_text}

-- a number that is written has 64 bits
abbrev pub IsNumber : ℕ → Type 0
IsNumber n = n < 2 ^ 64

-- the names of a volume's job are words, and its volume is a number
pub record IsShare (s : Share) : Type 0 where
  pub tenant : IsClean s.tenant
  pub job : IsClean s.job
  pub volume : IsNumber s.volume

-- the names of an event are words, and its numbers are numbers
abbrev pub IsWritable : Event → Type 0
IsWritable (Open tenant job ask) = IsClean tenant × IsClean job × IsNumber ask.priority × IsNumber ask.demand × IsNumber ask.slices
IsWritable (Revise tenant job number) = IsClean tenant × IsClean job × IsNumber number
IsWritable (Reask tenant job weight) = IsClean tenant × IsClean job × IsNumber weight.priority × IsNumber weight.demand
IsWritable (Close tenant job) = IsClean tenant × IsClean job
IsWritable (Balance volumes) = AllByRecursion IsShare volumes
IsWritable (Start tenant job index worker) = IsClean tenant × IsClean job × IsNumber index × IsNumber worker
IsWritable (Finish tenant job index worker outcome) = IsClean tenant × IsClean job × IsNumber index × IsNumber worker
IsWritable (Exchange tenant job) = IsClean tenant × IsClean job
IsWritable (Leave tenant job) = IsClean tenant × IsClean job
IsWritable (Arrive tenant job) = IsClean tenant × IsClean job

-- two histories are the same: they have as many workers, and the same events in the same order
pub record AreSame (workers others : ℕ) (one other : List Event) : Type 0 where
  pub workers_are : workers ≡ others
  pub events : one ≡ other

-- two histories with one text are the same
abbrev pub HistoriesDiffer : Type 0
HistoriesDiffer =
    (workers others : ℕ) (one other : List Event) → IsNumber workers → IsNumber others → AllByRecursion IsWritable one → AllByRecursion IsWritable other
    → history_text workers one ≡ history_text others other → AreSame workers others one other

-- a start of a node by a worker, with its finish
abbrev pub one_start : ℕ → ℕ → Outcome → List Event
one_start index worker outcome = Start (codes "a") (codes "p") index worker ∷ Finish (codes "a") (codes "p") index worker outcome ∷ []

-- an opening of a job of this profile
abbrev pub one_open : Profile → List Event
one_open profile = Open (codes "a") (codes "p") (record { priority = 1; demand = 1; slices = 4; profile = profile }) ∷ []

-- a change of a job's weight to this priority
abbrev pub one_reask : ℕ → List Event
one_reask priority = Reask (codes "a") (codes "p") (record { priority = priority; demand = 1 }) ∷ []

-- a leave of a job, and its arrival
abbrev pub one_leave : List Event
one_leave = Leave (codes "a") (codes "p") ∷ []

abbrev pub one_arrival : List Event
one_arrival = Arrive (codes "a") (codes "p") ∷ []

-- worked examples: another outcome, another number of workers, the node's index and the worker exchanged, an event
-- less, another profile, another priority of a job that runs, and an arrival in place of a leave are other texts
pub record HaveOtherTexts : Type 0 where
  pub outcome : history_text 2 (one_start 0 1 Ran) ≢ history_text 2 (one_start 0 1 Lost)
  pub workers : history_text 2 (one_start 0 1 Ran) ≢ history_text 3 (one_start 0 1 Ran)
  pub exchanged : history_text 2 (one_start 2 1 Ran) ≢ history_text 2 (one_start 1 2 Ran)
  pub less : history_text 2 (one_start 0 1 Ran) ≢ history_text 2 []
  pub profile : history_text 2 (one_open Plain) ≢ history_text 2 (one_open Lean)
  pub priority : history_text 2 (one_reask 1) ≢ history_text 2 (one_reask 2)
  pub move : history_text 2 one_leave ≢ history_text 2 one_arrival
