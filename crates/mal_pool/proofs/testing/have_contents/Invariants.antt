use Rattle.std.proofs.Common.{take}
use Rattle.mal_pool.specs.Testing.{HaveContents}
use Rattle.mal_pool.proofs.testing.have_contents.Given as goal

abbrev pub invariant-loop-job : goal.invariant-loop-job
invariant-loop-job l = HaveContents l.hall.events (take l.job-index l.jobs)
