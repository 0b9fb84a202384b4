use Rattle.spec_solving.specs.Calls.{IsRun}
use Rattle.mal_solving.proofs.solver.Solver.run.Given as goal

abbrev pub invariant-loop : goal.invariant-loop
invariant-loop l = IsRun l.fn.self l.self
