use Rattle.std.proofs.Common.{◌≡◌, drop}
use Rattle.mal_history.specs.Shared.{shared}
use Rattle.spec_hall.specs.Own.{volume_in}
use Rattle.mal_hall.proofs.telling.volume_in.Given as goal

abbrev pub invariant-loop-share : goal.invariant-loop-share
invariant-loop-share l = volume_in l.key (shared (drop l.share-index l.volumes)) ≡ volume_in l.key (shared l.volumes)
