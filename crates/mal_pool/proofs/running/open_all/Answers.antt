use Rattle.std.proofs.Common.{arith}
use Rattle.spec_run.proofs.PostingLemmas.{opened-may_open}
use Rattle.mal_pool.proofs.running.open_all.Goals as goal

pub post_due-requires : goal.post_due-requires
post_due-requires c = opened-may_open c.loop-job.hall.events c.args.jobs.now c.loop-job.job-index c.job-item.result c.loop-job.invariant.events c.requires.follow (omega arith) c.job-item.is
