use Rattle.std.proofs.Common.{◌≡◌, ◌+◌, ◌≤◌, drop}
use Rattle.mal_hall.specs.HallView.{out_in}
use Rattle.mal_hall.proofs.spots.count_out.Given as goal

abbrev pub invariant-loop-spot : goal.invariant-loop-spot
invariant-loop-spot l = record {
  sum : l.count + out_in (drop l.spot-index l.spots) ≡ out_in l.spots;
  bound : l.count ≤ l.spot-index;
}
