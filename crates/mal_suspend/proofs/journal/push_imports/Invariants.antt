use Rattle.std.proofs.Common.{◌≡◌, ◌++◌, take}
use Rattle.mal_suspend.specs.Starting.{shared_imports, import_entries}
use Rattle.mal_suspend.proofs.journal.push_imports.Given as goal

abbrev pub invariant-loop-told : goal.invariant-loop-told
invariant-loop-told l = l.entries ≡ l.fn.entries ++ import_entries (shared_imports (take l.told-index l.imports))
