use Rattle.spec_job.proofs.RunsLemmas.{runs-are_few}
use Rattle.spec_job.proofs.runs_are_few.Goals as goal

pub returns : goal.returns
returns c = runs-are_few
