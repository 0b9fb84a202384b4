use Rattle.std.proofs.Common.{◌≡◌, ◌++◌, drop}
use Rattle.spec_cluster.specs.Run.{dealt_from}
use Rattle.mal_cli.proofs.clusters.dealt.Given as goal

abbrev pub invariant-loop-at : goal.invariant-loop-at
invariant-loop-at l = l.jobs.items ++ dealt_from l.halls l.n l.at (drop l.at l.all) ≡ dealt_from l.halls l.n 0 l.all
