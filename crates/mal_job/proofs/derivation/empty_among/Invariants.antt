use Rattle.std.proofs.Common.{◌≡◌, drop}
use Rattle.spec_job.specs.SoloMachine.{first_empty}
use Rattle.mal_job.proofs.derivation.empty_among.Given as goal

abbrev pub invariant-loop-n : goal.invariant-loop-n
invariant-loop-n l = first_empty (drop l.n l.lines.lines) ≡ first_empty l.lines.lines
