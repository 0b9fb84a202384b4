use Rattle.mal_cluster.proofs.TurningLemmas.{IsCarrying}
use Rattle.mal_cluster.proofs.cluster.Cluster.carry.Given as goal

abbrev pub invariant-loop-from : goal.invariant-loop-from
invariant-loop-from l = IsCarrying l.chosen l.from l.fn.self l.self
