use Rattle.std.proofs.Common.{◌≡◌, ◌≤◌, ◌++◌, drop}
use Rattle.spec_hall.specs.Seats.{balanced_from, balanced_by}
use Rattle.mal_seats.specs.Filled.{filled_from, filled_in}
use Rattle.mal_seats.proofs.volumes.filled_by.Given as goal

abbrev pub invariant-loop-at : goal.invariant-loop-at
invariant-loop-at l = record {
  filled : l.filled.items ++ filled_from l.at (balanced_from l.live l.volumes (drop l.at l.seats)) ≡ filled_in (balanced_by l.volumes l.seats);
  bound : l.live ≤ l.at;
}
