-- Nobody starves: a node is not started again and again where another one might be.
use Rattle.std.specs.Prelude.{◌≡◌, ℕ, ◌+◌, ◌<◌, ◌≤◌, max, true, false, List, ◌∷◌, ◌++◌, slice_get, Some}
use Rattle.std.specs.List.{list_any}
use Rattle.spec_job.specs.KeyedJob.{Key}
use Rattle.spec_job.specs.SoloMachine.{place_at, solo, startable}
use Rattle.spec_hall.specs.Events.{Event, Start}
use Rattle.spec_hall.specs.Legal.{Legal}
use Rattle.spec_hall.specs.Own.{arrives, is_key, own}
use Rattle.spec_hall.specs.States.{Live, balanced, keys_of, lives, states}

-- how often a node of a job was started
abbrev pub starts_at : Key → ℕ → List Event → ℕ
starts_at k index history = (place_at (solo (own k history)) index).starts

-- a node may start after a history: its job is there, and lets it start
pub record MayBeStarted (k : Key) (index : ℕ) (history : List Event) : Type 0 where
  pub there : list_any (is_key k) (keys_of history) ≡ true
  pub lets : startable (solo (own k history)) index ≡ true

-- each time that the node n of the job j is started after a past, the node m of the job k may start too
abbrev pub MayStartToo : List Event → List Event → Key → ℕ → Key → ℕ → Type 0
MayStartToo past later j n k m = (es fs : List Event) (worker : ℕ) → later ≡ es ++ Start j n worker ∷ fs → MayBeStarted k m (past ++ es)

-- then the first gets no more than one start ahead of the second, unless it was that far ahead before: so of two nodes
-- that may start all the while, neither gets two starts ahead of the other that it did not have
abbrev pub NobodyStarves : Type 0
NobodyStarves =
    (workers n m : ℕ) (past later : List Event) (j k : Key) → Legal workers (past ++ later)
    → list_any (arrives j) later ≡ false → list_any (arrives k) later ≡ false → MayStartToo past later j n k m
    → starts_at j n (past ++ later) ≤ max (starts_at j n past) (starts_at k m (past ++ later) + 1)

-- where no balancing is due, as it is at each start, the first live jobs by opening have a volume, as many as there are
-- workers: so a live job without one gets it as soon as enough of those before it are answered
abbrev pub FirstHaveVolumes : Type 0
FirstHaveVolumes =
    (workers place : ℕ) (history : List Event) (live : Live) → Legal workers history → Some (lives (states history)) ≡ balanced history
    → slice_get (lives (states history)) place ≡ Some live → place < workers → 1 ≤ (solo (own live.key history)).volume
