use Rattle.std.specs.Prelude.{◌≡◌, ℕ, List, replicate, slice_set, get_or, Some}
use Rattle.mal_base.specs.declared.verdict.Outcome.{Outcome}
use Rattle.mal_base.specs.declared.verdict.Outcome.TheVariants.{Ran, Starved, Lost}
use Rattle.spec_job.specs.Journal.{JournalEntry}
use Rattle.spec_job.specs.Journaled.{Journaled, and_entries}
use Rattle.spec_job.specs.Leased.{Leased, Finished}
use Rattle.spec_job.specs.SoloMachine.{Own, Started, Lease, place_at, start_entries}
use Rattle.spec_job.specs.KeyedJob.{KeyedJob, stepped}

-- a job of a hall: its number there, its key with its machine, and for each of the 64 places the number of its last
-- start, 0 before the first
pub record JobView : Type 0 where
  pub number : ℕ
  pub titled : KeyedJob
  pub starts : List ℕ

-- a job of this number that was never started
abbrev pub unstarted : ℕ → KeyedJob → JobView
unstarted number t = record { number = number; titled = t; starts = replicate 64 0 }

-- a job after one more event of its own
abbrev pub and_own : JobView → Own → JobView
and_own v o = record { number = v.number; titled = stepped v.titled o; starts = v.starts }

-- a job after the start of this number of the node at an index
abbrev pub and_start : JobView → ℕ → ℕ → JobView
and_start v index start = record { number = v.number; titled = stepped v.titled (Started index); starts = slice_set v.starts index start }

-- the journal of the node at an index, with the number of its last start
abbrev pub journal_at : JobView → ℕ → Journaled
journal_at v index = record { job = v.number; profile = v.titled.state.ask.profile; index = index; start = get_or v.starts index 0; entries = (place_at v.titled.state index).entries }

-- a lease is the one of a start: it has the journal of the job after that start, and what the start adds to it
pub record IsLeaseOf (v : JobView) (index start by : ℕ) (l : Leased) : Type 0 where
  pub journal : l.journal ≡ journal_at (and_start v index start) index
  pub adds : l.adds ≡ start_entries v.titled.state (place_at v.titled.state index)
  pub worker : l.worker ≡ by

-- the journal of a lease after a start that ended so: after ran it has the start's entries besides
abbrev pub IsGrownBy : Outcome → List JournalEntry → Journaled → Journaled → Type 0
IsGrownBy Ran adds j back = back ≡ and_entries j adds
IsGrownBy Starved adds j back = back ≡ j
IsGrownBy Lost adds j back = ⊥

-- what came back is that of the lease that is out at an index
pub record IsBack (v : JobView) (index : ℕ) (d : Finished) : Type 0 where
  pub lease : Lease
  pub out : (place_at v.titled.state index).out ≡ Some lease
  pub journal : IsGrownBy d.outcome lease.adds (journal_at v index) d.journal
