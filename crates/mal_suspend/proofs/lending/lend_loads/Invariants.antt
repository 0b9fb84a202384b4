use Rattle.std.proofs.Common.{◌≡◌, take}
use Rattle.mal_cdcl.specs.Ready.{posted}
use Rattle.mal_suspend.specs.Starting.{shared_loads}
use Rattle.mal_suspend.proofs.lending.lend_loads.Given as goal

abbrev pub invariant-loop-load : goal.invariant-loop-load
invariant-loop-load l = posted l.lent.items ≡ shared_loads (take l.load-index l.loads)
