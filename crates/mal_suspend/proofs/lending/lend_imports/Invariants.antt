use Rattle.std.proofs.Common.{◌≡◌, take}
use Rattle.mal_cdcl.specs.Importing.{lent}
use Rattle.mal_suspend.specs.Starting.{shared_imports}
use Rattle.mal_suspend.proofs.lending.lend_imports.Given as goal

abbrev pub invariant-loop-told : goal.invariant-loop-told
invariant-loop-told l = lent l.lent.items ≡ shared_imports (take l.told-index l.imports)
