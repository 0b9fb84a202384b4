use Rattle.std.proofs.Common.{◌≡◌, ◌-◌, ◌++◌}
use Rattle.spec_script.specs.Generated.{variables, variables_from}
use Rattle.mal_script.proofs.generating.variables.Given as goal

abbrev pub invariant-loop-number : goal.invariant-loop-number
invariant-loop-number l = l.variables.items ++ variables_from l.number (51 - l.number) ≡ variables
