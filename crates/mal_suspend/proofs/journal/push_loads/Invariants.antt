use Rattle.std.proofs.Common.{◌≡◌, ◌++◌, take}
use Rattle.mal_suspend.specs.Starting.{shared_loads, load_entries}
use Rattle.mal_suspend.proofs.journal.push_loads.Given as goal

abbrev pub invariant-loop-load : goal.invariant-loop-load
invariant-loop-load l = l.entries ≡ l.fn.entries ++ load_entries (shared_loads (take l.load-index l.loads))
