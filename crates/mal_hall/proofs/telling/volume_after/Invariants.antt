use Rattle.std.proofs.Common.{◌≡◌, drop, fold}
use Rattle.mal_parcel.specs.Owned.{owned}
use Rattle.spec_hall.specs.Own.{volume_after, volume_step}
use Rattle.mal_hall.proofs.telling.volume_after.Given as goal

abbrev pub invariant-loop-event : goal.invariant-loop-event
invariant-loop-event l = fold volume_step l.volume (owned (drop l.event-index l.events)) ≡ volume_after (owned l.events)
