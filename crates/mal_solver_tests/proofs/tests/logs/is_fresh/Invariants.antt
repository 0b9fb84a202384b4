use Rattle.std.proofs.Common.{◌≢◌, take}
use Rattle.std.specs.Prelude.{All}
use Rattle.mal_base.specs.NumberedClause.{Line}
use Rattle.mal_solver_tests.proofs.tests.logs.is_fresh.Given as goal

abbrev pub invariant-loop-n : goal.invariant-loop-n
invariant-loop-n l = All (λ (other : Line). other.id ≢ l.id) (take l.n l.log.lines)
