use Rattle.mal_balance.specs.Greedy.{IsBest}
use Rattle.mal_balance.proofs.balance.neediest.Given as goal

abbrev pub invariant-loop-job : goal.invariant-loop-job
invariant-loop-job l = IsBest l.jobs l.volumes l.job l.best
