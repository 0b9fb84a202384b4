use Rattle.std.proofs.Common.{◌≡◌, ◌++◌, map, drop}
use Rattle.spec_text.specs.Lines.{text_of}
use Rattle.mal_history.specs.Text.{event_words}
use Rattle.spec_parcel.specs.Packed.{own_text, written_from}
use Rattle.mal_parcel.specs.Owned.{owned}
use Rattle.mal_parcel.proofs.events.text_of.Given as goal

-- the text so far and that of the events that are left is the whole
abbrev pub invariant-loop-event : goal.invariant-loop-event
invariant-loop-event l =
    l.out.items ++ text_of (map event_words (written_from (record { tenant = l.tenant; job = l.job }) l.number (owned (drop l.event-index l.events)))) ≡ own_text (record { tenant = l.tenant; job = l.job }) (owned l.events)
