use Rattle.std.proofs.Common.{◌≡◌, ◌+◌, ◌-◌, ◌++◌}
use Rattle.spec_script.specs.Generated.{jobs_from}
use Rattle.mal_script.proofs.generating.generate.Given as goal

abbrev pub invariant-loop-number : goal.invariant-loop-number
invariant-loop-number l = l.made.items ++ jobs_from (l.jobs + 1 - l.number) l.number l.draws ≡ jobs_from l.jobs 1 l.seed
