use Rattle.std.proofs.Common.{sym, ◌∙◌}
use Rattle.spec_cluster.specs.Clusters.{home}
use Rattle.spec_hall.specs.Dressed.{keyed}
use Rattle.mal_cluster.specs.Kept.{histories}
use Rattle.mal_cluster.proofs.FindingLemmas.{home-here, home-last, home-next, later-zero}
use Rattle.mal_cluster.proofs.finding.home_of.Goals as goal

pub loop-place-init : goal.loop-place-init
loop-place-init c = later-zero (home (keyed c.args.tenant.now c.args.job.now) (histories c.args.halls.now))

pub returns-then-has_job : goal.returns-then-has_job
returns-then-has_job c = home-here (keyed c.args.tenant.now c.args.job.now) c.args.halls.now c.loop-place.place c.index-halls-place.result c.loop-place-test.true c.index-halls-place.is c.loop-place.invariant (sym c.has_job.ensures ∙ c.if-has_job.true)

pub loop-place-preserved : goal.loop-place-preserved
loop-place-preserved c = home-next (keyed c.args.tenant.now c.args.job.now) c.args.halls.now c.loop-place.place c.index-halls-place.result c.loop-place-test.true c.index-halls-place.is c.loop-place.invariant (sym c.has_job.ensures ∙ c.if-has_job.false)

pub returns : goal.returns
returns c = home-last (keyed c.args.tenant.now c.args.job.now) c.args.halls.now c.loop-place.place c.loop-place-test.false c.loop-place.invariant
