use Rattle.std.proofs.Common.{◌<◌}
use Rattle.spec_balance.specs.Fair.{demand_at, volume_at}
use Rattle.mal_balance.specs.Greedy.{IsNext}
use Rattle.mal_balance.proofs.Claims.{best-new}
use Rattle.mal_balance.proofs.balance.better.Goals as goal

pub returns-in-Some : goal.returns-in-Some
returns-in-Some c =
    let next : IsNext c.args.jobs.now c.args.volumes.now c.args.job c.in-Some.other = rw c.in-Some.is at c.requires.best in
    let low : volume_at c.args.volumes.now c.args.job < demand_at c.args.jobs.now c.args.job = rw (← c.demand_of.ensures.value) c.if-demand_of-volumes.false in
    best-new c.args.jobs.now c.args.volumes.now c.args.job c.in-Some.other next c.requires.some (c.has_better_claim.ensures.0 c.if-has_better_claim.true) low
