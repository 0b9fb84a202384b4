use Rattle.std.proofs.Common.{◌≡◌, All, map}
use Rattle.mal_cluster.specs.Kept.{histories}
use Rattle.spec_run.specs.Complete.{script_events}
use Rattle.mal_cli.proofs.ClusterLemmas.{first_dealt}
use Rattle.mal_cli.proofs.clusters.posted_in.Given as goal

abbrev pub invariant-loop-n : goal.invariant-loop-n
invariant-loop-n l = record {
  each : All (λ h. h.workers ≡ l.workers) l.made.items;
  events : histories l.made.items ≡ map script_events (first_dealt l.halls l.script l.n);
}
