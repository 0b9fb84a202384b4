use Rattle.std.specs.Prelude.{◌≡◌, ◌⊎◌, ℕ, Bool, true, false, List}
use Rattle.std.specs.List.{list_any}
use Rattle.mal_pool.specs.declared.gate.Point.{Point}
use Rattle.mal_pool.specs.declared.gate.Point.TheVariants.{Before, After}
use Rattle.spec_hall.specs.Calls.{Handed}
use Rattle.spec_hall.specs.Events.{Event}
use Rattle.spec_run.specs.Losses.{is_loss, LosesLate}

-- where a gate stops a worker: at a point, of a start, a worker
abbrev pub Stops : Type 0
Stops = Point → ℕ → ℕ → Bool

-- the second of two points is the first
abbrev pub at_point : Point → Point → Bool
at_point Before Before = true
at_point Before After = false
at_point After Before = false
at_point After After = true

-- a gate stops some worker somewhere
abbrev pub StopsSomewhere : Stops → Type 0
StopsSomewhere stops = (p : Point) × (start : ℕ) × (worker : ℕ) × (stops p start worker ≡ true)

-- the gate lets a worker pass with a lease, before and after its slice
abbrev pub Passes : Stops → ℕ → Handed → Type 0
Passes stops w l = (stops Before l.journal.start w ≡ false) × (stops After l.journal.start w ≡ false)

-- the gate stops a worker with a lease at the last point that it reaches
abbrev pub Halts : Stops → ℕ → Handed → Type 0
Halts stops w l = (stops Before l.journal.start w ≡ true) ⊎ ((stops Before l.journal.start w ≡ false) × (stops After l.journal.start w ≡ true))

-- leases are lost only where the gate stops some worker somewhere, and after the first loss only the first worker
-- starts nodes
pub record LosesByStops (stops : Stops) (history : List Event) : Type 0 where
  pub stopped : list_any is_loss history ≡ true → StopsSomewhere stops
  pub late : LosesLate history
