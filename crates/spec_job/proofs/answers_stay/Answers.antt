use Rattle.spec_job.proofs.StayLemmas.{answers-stay}
use Rattle.spec_job.proofs.answers_stay.Goals as goal

pub returns : goal.returns
returns c = answers-stay
