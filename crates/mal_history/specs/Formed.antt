-- Histories in form: those that are read from a text.
use Rattle.std.specs.Prelude.{ℕ, suc, ◌≤◌, List, [], ◌∷◌, length}
use Rattle.std.specs.List.{AllByRecursion}
use Rattle.mal_base.specs.Limits.{limits}
use Rattle.mal_base.specs.Asks.{IsAsk, IsWeight}
use Rattle.mal_history.specs.declared.event.Event.{Event}
use Rattle.mal_history.specs.declared.event.Event.TheVariants.{Open, Revise, Reask, Close, Balance, Start, Finish, Exchange, Leave, Arrive}
use Rattle.mal_history.specs.declared.event.Share.{Share}
use Rattle.mal_history.specs.Grammar.{AreNames}
use Rattle.mal_history.specs.Reading.{Read, most_events}
use Rattle.mal_history.specs.Sizes.{most_workers, last_node}

-- a volume in form: both names are, and it is no more than a job may ask for
pub record IsVolume (s : Share) : Type 0 where
  pub names : AreNames s.tenant s.job
  pub bound : s.volume ≤ limits.demand

-- a node and a worker are in range
pub record IsSeat (workers index worker : ℕ) : Type 0 where
  pub index_bound : index ≤ last_node
  pub some_worker : 1 ≤ worker
  pub worker_bound : worker ≤ workers

-- an event in form, in a history of so many workers: names are names, and numbers are in their ranges; no move is in
-- form, since what a job brings is not in a text
abbrev pub IsEvent : ℕ → Event → Type 0
IsEvent workers (Open tenant job ask) = AreNames tenant job × IsAsk ask
IsEvent workers (Revise tenant job number) = AreNames tenant job × (1 ≤ number) × (number ≤ limits.revisions)
IsEvent workers (Reask tenant job weight) = AreNames tenant job × IsWeight weight
IsEvent workers (Close tenant job) = AreNames tenant job
IsEvent workers (Balance volumes) = AllByRecursion IsVolume volumes
IsEvent workers (Start tenant job index worker) = AreNames tenant job × IsSeat workers index worker
IsEvent workers (Finish tenant job index worker outcome) = AreNames tenant job × IsSeat workers index worker
IsEvent workers (Exchange tenant job) = AreNames tenant job
IsEvent workers (Leave tenant job) = ⊥
IsEvent workers (Arrive tenant job) = ⊥

-- a history in form: the workers and the events are not too many, and each event is in form
pub record IsHistory (workers : ℕ) (events : List Event) : Type 0 where
  pub some : 1 ≤ workers
  pub bound : workers ≤ most_workers
  pub few : length events ≤ most_events
  pub formed : AllByRecursion (IsEvent workers) events

-- the lines on which events are written, of which the first is this one
abbrev pub lines_from : ℕ → List Event → List ℕ
lines_from line [] = []
lines_from line (e ∷ events) = line ∷ lines_from (suc line) events

-- what is read of the text that a history is written as: the first event stands on line 2
abbrev pub written_read : ℕ → List Event → Read
written_read workers events = record { workers = workers; events = events; lines = lines_from 2 events }
