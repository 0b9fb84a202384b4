-- What changes a seat.
use Rattle.std.specs.Prelude.{◌≡◌, ℕ, List, slice_get, slice_set, Some}
use Rattle.spec_hall.specs.Seats.{Seat}

-- what holds of the seat at a place
abbrev pub OfSeat : List Seat → ℕ → (Seat → Type 0) → Type 0
OfSeat seats at P = (s : Seat) → slice_get seats at ≡ Some s → P s

-- the seat at a place was changed so, and all others are as before
abbrev pub IsChanged : (Seat → Seat) → ℕ → List Seat → List Seat → Type 0
IsChanged change at before after = (s : Seat) → slice_get before at ≡ Some s → after ≡ slice_set before at (change s)

-- a change of a seat leaves its job the number and the volume
pub record IsSteady (before after : Seat) : Type 0 where
  pub number : after.job.number ≡ before.job.number
  pub volume : after.job.titled.state.volume ≡ before.job.titled.state.volume

-- the seat at a place made this step, and all others are as before
pub record HasStepped (Step : Seat → Seat → Type 0) (at : ℕ) (before after : List Seat) : Type 0 where
  pub seat : Seat
  pub there : slice_get before at ≡ Some seat
  pub now : Seat
  pub step : Step seat now
  pub set : after ≡ slice_set before at now
