use Rattle.mal_cluster.specs.Turning.{AreTurning}
use Rattle.mal_cluster.proofs.cluster.Cluster.turn_all.Given as goal

abbrev pub invariant-loop-at : goal.invariant-loop-at
invariant-loop-at l = AreTurning l.every l.at l.fn.self l.self
