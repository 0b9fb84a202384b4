use Rattle.spec_job.proofs.LeftLemmas.{left-falls}
use Rattle.spec_job.proofs.left_falls.Goals as goal

pub returns : goal.returns
returns c = left-falls
