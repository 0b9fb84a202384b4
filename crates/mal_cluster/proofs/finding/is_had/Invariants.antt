use Rattle.std.proofs.Common.{◌≡◌, drop}
use Rattle.spec_cluster.specs.Clusters.{is_had}
use Rattle.spec_hall.specs.Dressed.{keyed}
use Rattle.mal_cluster.specs.Kept.{histories}
use Rattle.mal_cluster.proofs.finding.is_had.Given as goal

abbrev pub invariant-loop-hall : goal.invariant-loop-hall
invariant-loop-hall l = is_had (keyed l.tenant l.job) (histories l.halls) ≡ is_had (keyed l.tenant l.job) (histories (drop l.hall-index l.halls))
