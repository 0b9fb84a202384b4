use Rattle.mal_balance.specs.Greedy.{IsStarted}
use Rattle.mal_balance.proofs.balance.give_one_each.Given as goal

abbrev pub invariant-loop-job : goal.invariant-loop-job
invariant-loop-job l = IsStarted l.jobs l.job l.out
