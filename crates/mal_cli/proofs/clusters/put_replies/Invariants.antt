use Rattle.std.proofs.Common.{◌≡◌, ◌++◌, ◌+◌, drop}
use Rattle.spec_cluster.specs.Run.{moved_replies}
use Rattle.spec_cluster.specs.Visits.{all_of}
use Rattle.spec_job.specs.SoloMachine.{solo}
use Rattle.spec_run.specs.Complete.{key_of_job}
use Rattle.spec_run.specs.Run.{replies_from}
use Rattle.spec_script.specs.Script.{revisions}
use Rattle.mal_cli.proofs.clusters.put_replies.Given as goal

abbrev pub invariant-loop-posted : goal.invariant-loop-posted
invariant-loop-posted l =
    l.out.items ++ replies_from (key_of_job l.job) (l.posted + 1) (solo (all_of (key_of_job l.job) l.cluster.halls l.cluster.moves)) (drop l.posted (revisions l.job))
    ≡ l.fn.out.items ++ moved_replies l.cluster l.job
