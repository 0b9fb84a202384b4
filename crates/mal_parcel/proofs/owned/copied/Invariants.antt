use Rattle.std.proofs.Common.{◌≡◌, take}
use Rattle.mal_parcel.specs.Owned.{owned}
use Rattle.mal_parcel.proofs.owned.copied.Given as goal

abbrev pub invariant-loop-event : goal.invariant-loop-event
invariant-loop-event l = owned l.copies.items ≡ owned (take l.event-index l.events)
