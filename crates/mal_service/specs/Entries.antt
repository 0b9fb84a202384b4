use Rattle.std.specs.Prelude.{[], Option, Some, None}
use Rattle.mal_service.specs.declared.hall_call.HallCall.{HallCall}
use Rattle.mal_service.specs.declared.hall_call.HallCall.TheVariants as told
use Rattle.mal_hall.specs.Offered.{offered, replied, returned}
use Rattle.mal_service.specs.Posts.{call_of, no_call}
use Rattle.spec_hall.specs.Dressed.{keyed}
use Rattle.mal_service.specs.Record.{Answered, Asked, Picked, Gave, Entry, entry}

-- a call with its arguments and its answer
abbrev pub answered : HallCall → Answered
answered (told.Posted post answer) = call_of post.value answer.value
answered (told.Asked tenant job r answer) = Asked (keyed tenant.value job.value) r.value (replied answer.value)
answered (told.Picked worker answer) = Picked worker.value (offered answer.value)
answered (told.Gave back answer) = Gave back.value (returned answer.value)

-- an entry that stands nowhere
abbrev pub no_entry : Entry
no_entry = entry no_call []

-- the entry that was noted last
abbrev pub noted_in : Option Entry → Entry
noted_in None = no_entry
noted_in (Some e) = e
