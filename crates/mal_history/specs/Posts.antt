-- Which events are posts of tenants.
use Rattle.std.specs.Prelude.{Option, Some, None}
use Rattle.mal_history.specs.declared.event.Event.{Event}
use Rattle.mal_history.specs.declared.event.Event.TheVariants as of
use Rattle.mal_history.specs.declared.post.PostLine.{PostLine}
use Rattle.mal_history.specs.declared.post.PostKind.TheVariants.{Opening, Revision, Reasking, Closing}

-- which post an event is: none for what the hall does by itself
abbrev pub post_of : Event → Option PostLine
post_of (of.Open tenant job ask) = Some (record { tenant = tenant; job = job; kind = Opening ask })
post_of (of.Revise tenant job number) = Some (record { tenant = tenant; job = job; kind = Revision number })
post_of (of.Reask tenant job weight) = Some (record { tenant = tenant; job = job; kind = Reasking weight })
post_of (of.Close tenant job) = Some (record { tenant = tenant; job = job; kind = Closing })
post_of (of.Balance volumes) = None
post_of (of.Start tenant job index worker) = None
post_of (of.Finish tenant job index worker outcome) = None
post_of (of.Exchange tenant job) = None
post_of (of.Leave tenant job) = None
post_of (of.Arrive tenant job) = None
