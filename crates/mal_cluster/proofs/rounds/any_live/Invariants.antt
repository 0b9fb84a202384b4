use Rattle.std.proofs.Common.{◌≡◌, drop}
use Rattle.mal_cluster.specs.Kept.{histories}
use Rattle.mal_cluster.specs.Turning.{any_live}
use Rattle.mal_cluster.proofs.rounds.any_live.Given as goal

abbrev pub invariant-loop-hall : goal.invariant-loop-hall
invariant-loop-hall l = any_live (histories l.halls) ≡ any_live (histories (drop l.hall-index l.halls))
