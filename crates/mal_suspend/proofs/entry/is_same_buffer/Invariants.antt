use Rattle.std.proofs.Common.{◌≡◌, take}
use Rattle.mal_suspend.proofs.entry.is_same_buffer.Given as goal

abbrev pub invariant-loop-i : goal.invariant-loop-i
invariant-loop-i l = take l.i l.entries ≡ take l.i l.others
