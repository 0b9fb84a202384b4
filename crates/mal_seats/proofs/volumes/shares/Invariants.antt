use Rattle.std.proofs.Common.{◌≡◌, ◌≤◌, ◌++◌, drop}
use Rattle.spec_hall.specs.Seats.{shares_from, shares_by}
use Rattle.mal_seats.proofs.volumes.shares.Given as goal

abbrev pub invariant-loop-seat : goal.invariant-loop-seat
invariant-loop-seat l = record {
  shares : l.shares ++ shares_from l.live l.volumes (drop l.seat-index l.seats) ≡ shares_by l.volumes l.seats;
  bound : l.live ≤ l.seat-index;
}
