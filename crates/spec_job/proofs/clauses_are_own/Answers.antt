use Rattle.spec_job.proofs.OwnLemmas.{runnable-clauses_own}
use Rattle.spec_job.proofs.clauses_are_own.Goals as goal

pub returns : goal.returns
returns c = runnable-clauses_own
