use Rattle.spec_promises.proofs.Bounded.{job_is_bounded, run_is_bounded}
use Rattle.spec_promises.proofs.Examples.{counts}
use Rattle.spec_promises.proofs.runs_are_bounded.Goals as goal

pub returns-clause-job : goal.returns-clause-job
returns-clause-job c = job_is_bounded

pub returns-clause-run : goal.returns-clause-run
returns-clause-run c = run_is_bounded

pub returns-clause-examples : goal.returns-clause-examples
returns-clause-examples c = counts
