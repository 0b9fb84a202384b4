use Rattle.std.proofs.Common.{◌≡◌, ◌++◌, take, drop, map}
use Rattle.mal_seats.specs.Filled.{moved_up}
use Rattle.mal_seats.proofs.filled.move_up.Given as goal

abbrev pub invariant-loop-at : goal.invariant-loop-at
invariant-loop-at l = take l.at-index l.places ++ map (moved_up l.gone) (drop l.at-index l.places) ≡ map (moved_up l.gone) l.initial.places
