use Rattle.std.proofs.Common.{◌≡◌, drop}
use Rattle.mal_hall.proofs.LookingLemmas.{live_key}
use Rattle.mal_hall.proofs.looking.first_live.Given as goal

abbrev pub invariant-loop-at : goal.invariant-loop-at
invariant-loop-at l = live_key (drop l.at l.seats) ≡ live_key l.seats
