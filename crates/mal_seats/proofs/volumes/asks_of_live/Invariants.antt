use Rattle.std.proofs.Common.{◌≡◌, ◌++◌, drop}
use Rattle.spec_hall.specs.Seats.{jobs_in}
use Rattle.spec_hall.specs.States.{live_asks}
use Rattle.mal_seats.proofs.volumes.asks_of_live.Given as goal

abbrev pub invariant-loop-seat : goal.invariant-loop-seat
invariant-loop-seat l = l.asks.items ++ live_asks (jobs_in (drop l.seat-index l.seats)) ≡ live_asks (jobs_in l.seats)
