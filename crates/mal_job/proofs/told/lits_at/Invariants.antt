use Rattle.std.proofs.Common.{◌≡◌, drop}
use Rattle.spec_job.specs.Proofs.{lits_at}
use Rattle.mal_job.proofs.told.lits_at.Given as goal

abbrev pub invariant-loop-n : goal.invariant-loop-n
invariant-loop-n l = lits_at l.goal (drop l.n l.log.lines) ≡ lits_at l.goal l.log.lines
