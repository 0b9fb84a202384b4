use Rattle.std.proofs.Common.{◌≡◌, ◌<◌, ◌≤◌, length, arith}
use Rattle.spec_balance.specs.Fair.{demand_at}
use Rattle.mal_balance.proofs.Giving.{started-more}
use Rattle.mal_balance.proofs.balance.give_one_each.Goals as goal

pub loop-job-preserved : goal.loop-job-preserved
loop-job-preserved c =
    let low : c.loop-job.job < length c.args.jobs.now = omega arith in
    let some : 1 ≤ demand_at c.args.jobs.now c.loop-job.job = rw (← c.demand_of.ensures.value) c.demand_of.ensures.some in
    let one : c.min.result ≡ 1 = omega arith in
    started-more c.args.jobs.now c.loop-job.job c.loop-job.out c.min.result c.loop-job.invariant low some one
