use Rattle.spec_cluster.proofs.TurnLemmas.{turn-grows}
use Rattle.spec_cluster.proofs.turn_grows.Goals as goal

pub returns : goal.returns
returns c = turn-grows
