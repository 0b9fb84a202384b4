-- An event of a history that was written down, with what was posted given beside it.
use Rattle.std.specs.Prelude.{Option, Some, None}
use Rattle.std.specs.Option.{option_map}
use Rattle.mal_revision.specs.Posted.{Posted}
use Rattle.mal_history.specs.declared.event.Event as written
use Rattle.mal_history.specs.declared.event.Event.TheVariants as of
use Rattle.spec_hall.specs.Dressed.{keyed}
use Rattle.spec_hall.specs.Events.{Event, Open, Revise, Reask, Close, Balance, Start, Finish, Exchange}

-- the event that is written down, a Revise with what is given as posted: there is no such event where nothing is given,
-- and none that moves a job
abbrev pub given : Option Posted → written.Event → Option Event
given posted (of.Open tenant job ask) = Some (Open (keyed tenant job) ask)
given posted (of.Revise tenant job number) = option_map (λ r. Revise (keyed tenant job) number r) posted
given posted (of.Reask tenant job w) = Some (Reask (keyed tenant job) w)
given posted (of.Close tenant job) = Some (Close (keyed tenant job))
given posted (of.Balance volumes) = Some (Balance volumes)
given posted (of.Start tenant job index worker) = Some (Start (keyed tenant job) index worker)
given posted (of.Finish tenant job index worker outcome) = Some (Finish (keyed tenant job) index worker outcome)
given posted (of.Exchange tenant job) = Some (Exchange (keyed tenant job))
given posted (of.Leave tenant job) = None
given posted (of.Arrive tenant job) = None
