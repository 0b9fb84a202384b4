use Rattle.std.proofs.Common.{◌≡◌, take}
use Rattle.mal_history.specs.Shared.{shared}
use Rattle.mal_hall.proofs.lodging.are_same.Given as goal

abbrev pub invariant-loop-i : goal.invariant-loop-i
invariant-loop-i l = shared (take l.i l.shares) ≡ shared (take l.i l.others)
