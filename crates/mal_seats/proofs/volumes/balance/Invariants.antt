use Rattle.std.proofs.Common.{◌≡◌, ◌≤◌, ◌++◌, take, drop}
use Rattle.spec_hall.specs.Seats.{balanced_from, balanced_by}
use Rattle.mal_seats.proofs.volumes.balance.Given as goal

abbrev pub invariant-loop-seat : goal.invariant-loop-seat
invariant-loop-seat l = record {
  seats : take l.seat-index l.seats ++ balanced_from l.live l.volumes (drop l.seat-index l.seats) ≡ balanced_by l.volumes l.initial.seats;
  bound : l.live ≤ l.seat-index;
}
