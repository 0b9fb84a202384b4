use Rattle.spec_run.proofs.PostingLemmas.{posting-formed}
use Rattle.mal_cli.proofs.ClusterLemmas.{replied-all}
use Rattle.mal_cli.proofs.clusters.replies.Goals as goal

pub put_replies-requires-clause-few : goal.put_replies-requires-clause-few
put_replies-requires-clause-few c =
    (posting-formed c.args.script.now.jobs c.loop-job.job-index c.job-item.result c.jobs-jobs.ensures.formed (rw c.jobs-jobs.ensures.jobs at c.loop-job-test.true) (rw c.jobs-jobs.ensures.jobs at c.job-item.is)).few

pub returns : goal.returns
returns c = replied-all c.args.script.now c.args.cluster.now c.jobs-jobs.result.now c.loop-job.job-index c.loop-job.out.items c.jobs-jobs.ensures.jobs c.loop-job.invariant c.loop-job-test.false
