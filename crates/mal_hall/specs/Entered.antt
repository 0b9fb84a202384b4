-- The events that a hall entered, each with what stands at it.
use Rattle.std.specs.Prelude.{ℕ, Bool, true, false, List, [], Option, map, zip}
use Rattle.std.specs.Option.{option_map, option_map_or}
use Rattle.std.specs.declared.boxed.Box.{Box}
use Rattle.mal_revision.specs.Posted.{Posted}
use Rattle.mal_history.specs.declared.event.Event as written
use Rattle.mal_history.specs.declared.event.Event.TheVariants as of
use Rattle.spec_job.specs.SoloMachine.{Own}
use Rattle.spec_hall.specs.Dressed.{keyed, no_revision}
use Rattle.spec_hall.specs.Events.{Event, Open, Revise, Reask, Close, Balance, Start, Finish, Exchange, Leave, Arrive}
use Rattle.mal_hall.specs.declared.content.Content.{Content}
use Rattle.mal_hall.specs.declared.content.Content.TheVariants.{Revised, Arrived}

-- entries as contracts see them: the number of workers, the events, and for how many more there is room
pub record Entered : Type 0 where
  pub workers : ℕ
  pub events : List Event
  pub room : ℕ

-- the revision that stands at an event, one that says nothing where another thing stands there
abbrev pub posted_of : Content → Posted
posted_of (Revised r) = r
posted_of (Arrived brought) = no_revision

-- the own events that an arrival brought, none where another thing stands at the event
abbrev pub brought_of : Content → List Own
brought_of (Revised r) = []
brought_of (Arrived brought) = brought

-- the event that is written down, with what stands at it: a Revise has the revision, one that says nothing where nothing
-- stands there, and an arrival has what it brought, nothing where nothing stands there
abbrev pub full : written.Event → Option Content → Event
full (of.Open tenant job ask) content = Open (keyed tenant job) ask
full (of.Revise tenant job number) content = Revise (keyed tenant job) number (option_map_or posted_of content no_revision)
full (of.Reask tenant job weight) content = Reask (keyed tenant job) weight
full (of.Close tenant job) content = Close (keyed tenant job)
full (of.Balance volumes) content = Balance volumes
full (of.Start tenant job index worker) content = Start (keyed tenant job) index worker
full (of.Finish tenant job index worker outcome) content = Finish (keyed tenant job) index worker outcome
full (of.Exchange tenant job) content = Exchange (keyed tenant job)
full (of.Leave tenant job) content = Leave (keyed tenant job)
full (of.Arrive tenant job) content = Arrive (keyed tenant job) (option_map_or brought_of content [])

-- whether nothing stands at an event: it is neither a Revise nor an arrival
abbrev pub is_bare : written.Event → Bool
is_bare (of.Revise tenant job number) = false
is_bare (of.Arrive tenant job) = false
is_bare event = true

-- the events that are written down, each with what stands at its place
abbrev pub filled : List written.Event → List (Option Content) → List Event
filled events contents = map (λ p. full p.0 p.1) (zip events contents)

-- what is in boxes
abbrev pub unboxed : {X Z : Type 0} → List (Option (Box X Z)) → List (Option X)
unboxed boxes = map (option_map (λ b. b.value)) boxes
