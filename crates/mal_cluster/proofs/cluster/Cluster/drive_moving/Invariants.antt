use Rattle.std.specs.Prelude.{List}
use Rattle.spec_cluster.specs.Clusters.{Cluster}
use Rattle.spec_cluster.specs.Rounds.{GoRounds, HasBegun, left_over}
use Rattle.mal_cluster.proofs.TurningLemmas.{GoRound}
use Rattle.mal_cluster.proofs.cluster.Cluster.drive_moving.Given as goal

abbrev pub invariant-loop-self : goal.invariant-loop-self
invariant-loop-self l = record {
  rounds : GoRound l.every l.fn.self l.self;
  begun : HasBegun l.fn.self l.self;
  rounds_gone : List Cluster;
  gone : GoRounds l.every l.fn.self rounds_gone l.self;
}

abbrev pub decreases-loop-self : goal.decreases-loop-self
decreases-loop-self l = left_over l.self
