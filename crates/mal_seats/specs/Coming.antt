-- The seat of a job that comes to a hall.
use Rattle.std.specs.Prelude.{false}
use Rattle.spec_job.specs.Viewed.{JobView}
use Rattle.spec_hall.specs.Seats.{Seat}

-- the seat of a job that no balancing has listed
abbrev pub seat_of : JobView → Seat
seat_of j = record { job = j; listed = false; noted = j.titled.state.ask }
