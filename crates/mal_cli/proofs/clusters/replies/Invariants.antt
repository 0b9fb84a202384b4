use Rattle.std.proofs.Common.{◌≡◌, flat_map, take}
use Rattle.spec_cluster.specs.Run.{moved_replies}
use Rattle.mal_cli.proofs.clusters.replies.Given as goal

abbrev pub invariant-loop-job : goal.invariant-loop-job
invariant-loop-job l = l.out.items ≡ flat_map (moved_replies l.cluster) (take l.job-index l.jobs)
