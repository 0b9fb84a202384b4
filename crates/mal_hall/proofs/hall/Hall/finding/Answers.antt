use Rattle.mal_hall.proofs.hall.Hall.finding.Goals as goal

pub returns-in_default-clause-no_job : goal.returns-in_default-clause-no_job
returns-in_default-clause-no_job c = λ _. rw c.in_default.is at c.job_named.ensures.found

pub returns-in-Ok-clause-found : goal.returns-in-Ok-clause-found
returns-in-Ok-clause-found c = (c.in-Some.job.now.titled, rw c.in-Some.is at c.job_named.ensures.found, c.in-Ok.ensures)

pub returns-in-Err-clause-out_of_memory : goal.returns-in-Err-clause-out_of_memory
returns-in-Err-clause-out_of_memory c = λ _. (c.in-Some.job.now.titled, rw c.in-Some.is at c.job_named.ensures.found)
