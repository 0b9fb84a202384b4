use Rattle.std.proofs.Common.{◌≡◌, drop, None}
use Rattle.mal_seats.specs.Filled.{pick_among}
use Rattle.mal_seats.proofs.scheduler.pick_among.Given as goal

abbrev pub invariant-loop-at : goal.invariant-loop-at
invariant-loop-at l = pick_among l.seats l.best (drop l.at-index l.places) ≡ pick_among l.seats None l.places
