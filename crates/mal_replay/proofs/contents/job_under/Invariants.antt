use Rattle.std.proofs.Common.{◌≡◌, drop}
use Rattle.spec_hall.specs.Dressed.{keyed}
use Rattle.spec_run.specs.Accounted.{job_under}
use Rattle.mal_replay.proofs.contents.job_under.Given as goal

abbrev pub invariant-loop-job : goal.invariant-loop-job
invariant-loop-job l = job_under (keyed l.tenant l.name) (drop l.job-index l.jobs) ≡ job_under (keyed l.tenant l.name) l.jobs
