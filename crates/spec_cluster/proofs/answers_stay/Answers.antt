use Rattle.spec_cluster.proofs.StayedLemmas.{answers-stay}
use Rattle.spec_cluster.proofs.answers_stay.Goals as goal

pub returns : goal.returns
returns c = answers-stay
