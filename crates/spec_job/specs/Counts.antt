use Rattle.std.specs.Prelude.{◌≡◌, ℕ, ◌+◌, ◌*◌, ◌≤◌, Bool, true, false, List, [], ◌∷◌, ◌++◌, length, count_by, sum_by, is_some}
use Rattle.std.specs.List.{list_any}
use Rattle.mal_base.specs.Asks.{Terms}
use Rattle.spec_node.specs.State.{Node}
use Rattle.spec_job.specs.Journal.{JournalEntry, is_run, replay}
use Rattle.spec_job.specs.SoloMachine.{Own, Opened, NodeSlot, SoloMachine, solo, place_at, missing_loads, missing_imports}
use Rattle.spec_job.specs.Runnable.{IsRunnable}

-- how many slices a journal has run
abbrev pub runs_in : List JournalEntry → ℕ
runs_in entries = count_by is_run entries

-- how many slices the journals of all places have run
abbrev pub runs_of : List NodeSlot → ℕ
runs_of places = sum_by (λ p. runs_in p.entries) places

-- the counts of a node that ran so many slices, of all those of its job: each slice raises a count by 1,000 at most,
-- and an import raises the serial to that of another node
pub record HasCounts (all runs : ℕ) (n : Node) : Type 0 where
  pub serial : n.serial ≤ all * 1000
  pub conflicts_since_restart : n.conflicts_since_restart ≤ runs * 1000
  pub restart_number : n.restart_number ≤ 1 + runs * 1000
  pub conflicts_since_dropping : n.conflicts_since_dropping ≤ runs * 1000

-- the counts of a place's node at home, and as its next start finds it, with what it lacks loaded and imported
pub record PlaceCounts (s : SoloMachine) (i : ℕ) (p : NodeSlot) : Type 0 where
  pub home : HasCounts (runs_of s.places) (runs_in p.entries) (replay s.ask.profile i p.entries).node
  pub ready : HasCounts (runs_of s.places) (runs_in p.entries) (replay s.ask.profile i (p.entries ++ (missing_loads s p ++ missing_imports s p))).node

-- the nodes of a job count no further than the slices that were run
abbrev pub ReplaysCount : Type 0
ReplaysCount = (events : List Own) (i : ℕ) → i ≤ 63 → PlaceCounts (solo events) i (place_at (solo events) i)

-- how many starts are out
abbrev pub starts_out : List NodeSlot → ℕ
starts_out places = count_by (λ p. is_some p.out) places

-- whether an own event opens a job
abbrev pub is_opening : Own → Bool
is_opening (Opened ask) = true
is_opening event = false

-- a job is opened once, and then each own event may happen
pub record IsOpenedOnce (ask : Terms) (own : List Own) : Type 0 where
  pub runnable : IsRunnable [] (Opened ask ∷ own)
  pub once : list_any is_opening own ≡ false

-- the slices that were run, and those that are out, are no more than the budgets of the revisions that have their
-- answers, and of one more
abbrev pub RunsAreFew : Type 0
RunsAreFew = (ask : Terms) (own : List Own) → IsOpenedOnce ask own → let s = solo (Opened ask ∷ own) in runs_of s.places + starts_out s.places ≤ (length s.answers + 1) * ask.slices
