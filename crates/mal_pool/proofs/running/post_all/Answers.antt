use Rattle.std.proofs.Common.{arith}
use Rattle.spec_run.proofs.PostingLemmas.{posting-is_open, posting-formed}
use Rattle.mal_pool.proofs.running.post_all.Goals as goal

pub post_job-requires-clause-opened : goal.post_job-requires-clause-opened
post_job-requires-clause-opened c = posting-is_open c.loop-job.hall.events c.args.hall.now.events c.args.jobs.now c.loop-job.job-index c.job-item.result c.requires.opened c.loop-job.invariant.events c.requires.follow (omega arith) c.job-item.is

pub post_job-requires-clause-formed : goal.post_job-requires-clause-formed
post_job-requires-clause-formed c = posting-formed c.args.jobs.now c.loop-job.job-index c.job-item.result c.requires.follow (omega arith) c.job-item.is
