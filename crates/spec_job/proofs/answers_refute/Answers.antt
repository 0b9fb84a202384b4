use Rattle.spec_job.proofs.RefutingLemmas.{runnable-logs_derived, runnable-answers_refute}
use Rattle.spec_job.proofs.answers_refute.Goals as goal

pub returns : goal.returns
returns c = record { log = runnable-logs_derived; refute = runnable-answers_refute }
