use Rattle.std.proofs.Common.{◌≡◌, drop}
use Rattle.spec_cluster.specs.Clusters.{home}
use Rattle.spec_hall.specs.Dressed.{keyed}
use Rattle.mal_cluster.specs.Kept.{histories}
use Rattle.mal_cluster.proofs.FindingLemmas.{later}
use Rattle.mal_cluster.proofs.finding.home_of.Given as goal

abbrev pub invariant-loop-place : goal.invariant-loop-place
invariant-loop-place l = home (keyed l.tenant l.job) (histories l.halls) ≡ later l.place (home (keyed l.tenant l.job) (histories (drop l.place l.halls)))
