use Rattle.std.proofs.Common.{◌≡◌, take, map}
use Rattle.mal_suspend.specs.Entries.{counted_of}
use Rattle.mal_suspend.proofs.entries.are_same.Given as goal

abbrev pub invariant-loop-i : goal.invariant-loop-i
invariant-loop-i l = map counted_of (take l.i l.counted) ≡ map counted_of (take l.i l.others)
