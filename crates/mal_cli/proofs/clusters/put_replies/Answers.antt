use Rattle.std.proofs.Common.{◌++◌}
use Rattle.spec_cluster.specs.Run.{moved_replies}
use Rattle.spec_cluster.specs.Visits.{all_of}
use Rattle.spec_job.specs.SoloMachine.{solo}
use Rattle.spec_run.specs.Complete.{key_of_job}
use Rattle.mal_cli.proofs.ClusterLemmas.{put-next}
use Rattle.mal_cli.proofs.clusters.put_replies.Goals as goal

pub loop-posted-preserved : goal.loop-posted-preserved
loop-posted-preserved c =
    let k = key_of_job c.args.job.now in
    put-next c.args.job.now k (solo (all_of k c.args.cluster.now.halls c.args.cluster.now.moves)) c.loop-posted.posted c.loop-posted.out.items c.put_reply.new.out.items (c.args.out.now.items ++ moved_replies c.args.cluster.now c.args.job.now) (rw c.revision_count-posted-end.ensures at c.loop-posted-test.true) c.loop-posted.invariant c.in_ok-put_reply.ensures
