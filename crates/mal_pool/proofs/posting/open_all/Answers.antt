use Rattle.mal_pool.proofs.Postings.{opened-more}
use Rattle.mal_pool.proofs.posting.open_all.Goals as goal

pub loop-job-preserved : goal.loop-job-preserved
loop-job-preserved g c = record {
  of = c.post-back.ensures.of;
  calls = opened-more c.args.jobs.now c.loop-job.job-index c.job-item.result (g.B.Desk.calls c.args.pass) (g.B.Desk.calls c.loop-job.pass) (g.B.Desk.calls c.post-back.result.0) c.loop-job.invariant.calls
      (rw (c.tenant.ensures, c.name.ensures, c.ask.ensures, c.in-Ok.is) at c.post-back.ensures.calls)
      c.loop-job-test.true c.job-item.is;
}
