use Rattle.std.proofs.Common.{◌≡◌, ◌++◌, drop}
use Rattle.std.specs.List.{flat_map}
use Rattle.spec_parcel.specs.Packed.{steps_at}
use Rattle.mal_parcel.specs.Owned.{owned}
use Rattle.mal_parcel.proofs.script.steps_of.Given as goal

-- the steps so far and those of the events that are left are all
abbrev pub invariant-loop-event : goal.invariant-loop-event
invariant-loop-event l = l.steps.items ++ flat_map steps_at (owned (drop l.event-index l.events)) ≡ flat_map steps_at (owned l.events)
