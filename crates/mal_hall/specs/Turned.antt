use Rattle.std.specs.Prelude.{◌≡◌, ℕ, ◌≤◌, List, [], ◌∷◌, ◌++◌}
use Rattle.mal_hall.specs.Entered.{Entered}
use Rattle.spec_balance.specs.Fair.{IsFair}
use Rattle.spec_hall.specs.Events.{Balance}
use Rattle.spec_hall.specs.States.{live_asks}
use Rattle.spec_hall.specs.Seats.{Seat, jobs_in, shares_by, balanced_by}

-- a balancing of these jobs was entered, with volumes that are fair for the workers, and the live jobs have them
pub record IsBalancing (h after : Entered) (ss now : List Seat) : Type 0 where
  pub volumes : List ℕ
  pub fair : IsFair h.workers (live_asks (jobs_in ss)) volumes
  pub events : after.events ≡ h.events ++ Balance (shares_by volumes ss) ∷ []
  pub seats : now ≡ balanced_by volumes ss

-- nothing was entered, and there is as much room as before
pub record HasWaited (h after : Entered) (ss now : List Seat) : Type 0 where
  pub workers : after.workers ≡ h.workers
  pub events : after.events ≡ h.events
  pub seats : now ≡ ss
  pub room : h.room ≤ after.room
