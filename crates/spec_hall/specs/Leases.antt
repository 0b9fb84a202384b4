use Rattle.std.specs.Prelude.{◌≡◌, ◌≢◌, ℕ, ◌+◌, ◌≤◌, Bool, ◌&&◌, ◌==◌, All, List, [], ◌∷◌, find, fold, Option, Some, None, is_some, if◌then◌else◌}
use Rattle.std.specs.Option.{option_map_or}
use Rattle.spec_job.specs.Journal.{JournalEntry}
use Rattle.spec_job.specs.Journaled.{Journaled}
use Rattle.spec_job.specs.SoloMachine.{solo, place_at}
use Rattle.spec_job.specs.KeyedJob.{Key}
use Rattle.spec_hall.specs.Events.{Event, Start}
use Rattle.spec_hall.specs.Own.{own, is_key}
use Rattle.spec_hall.specs.States.{LeaseOut, Candidate, job_number, states, lives, balanced, leases, lease_of, picked}
use Rattle.spec_hall.specs.Legal.{Legal}

-- how many starts there were, and the number of the last one of a worker, 0 before it
pub record Numbered : Type 0 where
  pub all : ℕ
  pub last : ℕ

-- starts are numbered 1, 2, .. in a history
abbrev pub numbered_step : ℕ → Numbered → Event → Numbered
numbered_step worker n (Start k index w) = record { all = n.all + 1; last = if w == worker then n.all + 1 else n.last }
numbered_step worker n event = n

-- the starts of a history as they concern a worker
abbrev pub numbered : ℕ → List Event → Numbered
numbered worker history = fold (numbered_step worker) (record { all = 0; last = 0 }) history

-- the number of the last start of a worker
abbrev pub start_number : ℕ → List Event → ℕ
start_number worker history = (numbered worker history).last

-- how many starts there were after one more event
abbrev pub starts_step : ℕ → Event → ℕ
starts_step n (Start k index worker) = n + 1
starts_step n event = n

-- how many starts a history has
abbrev pub starts_in : List Event → ℕ
starts_in history = fold starts_step 0 history

-- the journal of a lease that is out: that of its node, under the number of its job, the profile that the job asked for
-- and the number of its start
abbrev pub lease_journal : List Event → LeaseOut → Journaled
lease_journal history l = record {
  job = job_number l.key history;
  profile = (solo (own l.key history)).ask.profile;
  index = l.index;
  start = start_number l.worker history;
  entries = (place_at (solo (own l.key history)) l.index).entries;
}

-- what the start of a lease that is out adds to that journal
abbrev pub lease_adds : List Event → LeaseOut → List JournalEntry
lease_adds history l = option_map_or (λ o. o.adds) (place_at (solo (own l.key history)) l.index).out []

-- whether a lease is of this node
abbrev pub is_of : Key → ℕ → LeaseOut → Bool
is_of k index l = is_key k l.key && index == l.index

-- the lease of a node
abbrev pub lease_at : Key → ℕ → List LeaseOut → Option LeaseOut
lease_at k index out = find (is_of k index) out

-- a worker of a hall: they are numbered from 1
pub record IsWorker (workers worker : ℕ) : Type 0 where
  pub low : 1 ≤ worker
  pub high : worker ≤ workers

-- no two of these leases are of one worker, or of one node
abbrev pub AreApart : List LeaseOut → Type 0
AreApart [] = Unit {0}
AreApart (l ∷ ls) = (lease_of l.worker ls ≡ None) × (lease_at l.key l.index ls ≡ None) × AreApart ls

-- the leases that are out: they are of workers of the hall, each of another worker and another node, and a node is out
-- exactly where a lease of it is
pub record AreLeases (workers : ℕ) (history : List Event) : Type 0 where
  pub of_workers : All (λ l. IsWorker workers l.worker) (leases history)
  pub apart : AreApart (leases history)
  pub nodes : (k : Key) (index : ℕ) → is_some (place_at (solo (own k history)) index).out ≡ is_some (lease_at k index (leases history))

-- so it is in each legal history of 1 to 64 workers
abbrev pub LegalLeases : Type 0
LegalLeases = (workers : ℕ) (history : List Event) → 1 ≤ workers → workers ≤ 64 → Legal workers history → AreLeases workers history

-- where a job is live and nothing is out, a balancing is due or some node may start
abbrev pub LegalGoesOn : Type 0
LegalGoesOn =
    (workers : ℕ) (history : List Event) → 1 ≤ workers → workers ≤ 64 → Legal workers history → leases history ≡ []
    → lives (states history) ≢ [] → Some (lives (states history)) ≡ balanced history → (choice : Candidate) × (picked (states history) ≡ Some choice)
