use Rattle.std.proofs.Common.{◌<◌, All, take}
use Rattle.mal_solver_tests.proofs.tests.trail.has_levels_below.Given as goal

abbrev pub invariant-loop-entry : goal.invariant-loop-entry
invariant-loop-entry l = All (λ e. e.level < l.levels) (take l.entry-index l.entry-items)
