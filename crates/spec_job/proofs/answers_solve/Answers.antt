use Rattle.spec_job.proofs.RefutingLemmas.{runnable-answers_solve, runnable-answers_follow}
use Rattle.spec_job.proofs.answers_solve.Goals as goal

pub returns : goal.returns
returns c = record { solve = runnable-answers_solve; follow = runnable-answers_follow }
