-- Halls that take their turns.
use Rattle.std.specs.Prelude.{◌≡◌, ℕ, ◌<◌, ◌≤◌, Bool, ◌==◌, not, List, ◌++◌, [], length}
use Rattle.std.specs.List.{list_any}
use Rattle.spec_hall.specs.Driven.{GrowsByTurns}
use Rattle.spec_hall.specs.Events.{Event}
use Rattle.spec_hall.specs.States.{leases, lives, states}
use Rattle.spec_hall.specs.Turns.{TakesTurn}
use Rattle.spec_cluster.specs.Clusters.{Cluster, with_hall}
use Rattle.spec_cluster.specs.Visits.{hall_at}

-- a history has grown by turns, and nothing is out
pub record HasTurns (workers : ℕ) (past now : List Event) : Type 0 where
  pub grows : GrowsByTurns workers past now
  pub home : leases now ≡ []

-- so has that of the hall at a place, and all else is as before
pub record HasTurnsAt (c : Cluster) (n : ℕ) (after : Cluster) : Type 0 where
  pub turns : HasTurns c.workers (hall_at c.halls n) (hall_at after.halls n)
  pub kept : after ≡ with_hall c n (hall_at after.halls n)

-- whether a job is live in any of these histories
abbrev pub any_live : List (List Event) → Bool
any_live halls = list_any (λ h. not (length (lives (states h)) == 0)) halls

-- the halls before a place took their turns, and the others are as before
pub record AreTurning (every at : ℕ) (before now : Cluster) : Type 0 where
  pub size : length now.halls ≡ length before.halls
  pub workers : now.workers ≡ before.workers
  pub moves : now.moves ≡ before.moves
  pub done : (n : ℕ) → n < at → TakesTurn before.workers every (hall_at before.halls n) (hall_at now.halls n)
  pub left : (n : ℕ) → at ≤ n → hall_at now.halls n ≡ hall_at before.halls n
  pub grown : (n : ℕ) → (later : List Event) × (hall_at now.halls n ≡ hall_at before.halls n ++ later)
