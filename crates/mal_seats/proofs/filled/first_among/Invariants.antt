use Rattle.std.proofs.Common.{◌≡◌, drop}
use Rattle.mal_seats.specs.Filled.{first_among}
use Rattle.mal_seats.proofs.filled.first_among.Given as goal

abbrev pub invariant-loop-at : goal.invariant-loop-at
invariant-loop-at l = first_among l.seats (drop l.at-index l.places) ≡ first_among l.seats l.places
