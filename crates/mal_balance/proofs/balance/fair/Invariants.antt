use Rattle.mal_balance.specs.Greedy.{IsGreedy}
use Rattle.mal_balance.proofs.balance.fair.Given as goal

abbrev pub invariant-loop-made : goal.invariant-loop-made
invariant-loop-made l = IsGreedy l.jobs l.first l.made l.out
