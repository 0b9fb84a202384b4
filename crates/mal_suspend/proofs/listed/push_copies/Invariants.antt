use Rattle.std.proofs.Common.{◌≡◌, take}
use Rattle.mal_suspend.specs.Entries.{entries_of}
use Rattle.mal_suspend.proofs.listed.push_copies.Given as goal

abbrev pub invariant-loop-one : goal.invariant-loop-one
invariant-loop-one l = entries_of l.all.items ≡ entries_of (take l.one-index l.counted)
