use Rattle.spec_hall.specs.Dressed.{keyed}
use Rattle.mal_job.specs.Replying.{Tells}
use Rattle.mal_hall.proofs.HallLemmas.{found-alone}
use Rattle.mal_hall.proofs.hall.Hall.answer.Goals as goal

pub returns-in_default-clause-no_job : goal.returns-in_default-clause-no_job
returns-in_default-clause-no_job c = λ _. rw c.in_default.is at c.job_named.ensures.found

pub returns-in-Ok-clause-answer : goal.returns-in-Ok-clause-answer
returns-in-Ok-clause-answer c = (c.in-Some.job.now.titled, rw c.in-Some.is at c.job_named.ensures.found, c.in-Ok.ensures)

pub returns-in-Ok-clause-alone : goal.returns-in-Ok-clause-alone
returns-in-Ok-clause-alone c = found-alone c.args.self.now.events (keyed c.args.tenant.now c.args.job.now) c.in-Some.job.now.titled (Tells c.args.r c.in-Ok.told) (rw c.in-Some.is at c.job_named.ensures.found) c.in-Ok.ensures

pub returns-in-Err-clause-out_of_memory : goal.returns-in-Err-clause-out_of_memory
returns-in-Err-clause-out_of_memory c = λ _. (c.in-Some.job.now.titled, rw c.in-Some.is at c.job_named.ensures.found)
