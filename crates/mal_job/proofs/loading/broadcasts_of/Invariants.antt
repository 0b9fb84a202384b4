use Rattle.std.proofs.Common.{◌≡◌, take}
use Rattle.mal_suspend.specs.Starting.{shared_imports}
use Rattle.mal_job.proofs.loading.broadcasts_of.Given as goal

abbrev pub invariant-loop-broadcast : goal.invariant-loop-broadcast
invariant-loop-broadcast l = shared_imports l.all.items ≡ shared_imports (take l.broadcast-index l.broadcasts)
