use Rattle.std.specs.Prelude.{ℕ, Bool, true, false, List, [], ◌∷◌, map, flat_map, codes, if◌then◌else◌}
use Rattle.std.specs.List.{list_any}
use Rattle.mal_base.specs.declared.verdict.Outcome.{Outcome}
use Rattle.mal_base.specs.declared.verdict.Outcome.TheVariants.{Ran, Starved, Lost}
use Rattle.mal_history.specs.declared.event.Event.{Event}
use Rattle.mal_history.specs.declared.event.Event.TheVariants.{Open, Revise, Reask, Close, Balance, Start, Finish, Exchange, Leave, Arrive}
use Rattle.mal_history.specs.declared.event.Assignment.{Assignment}
use Rattle.mal_history.specs.declared.event.Share.{Share}
use Rattle.spec_text.specs.Asks.{ask_words}
use Rattle.spec_text.specs.Lines.{text_of}
use Rattle.spec_text.specs.Numbers.{decimal_word}

-- the word of an outcome
abbrev pub outcome_word : Outcome → List ℕ
outcome_word Ran = codes "ran"
outcome_word Starved = codes "starved"
outcome_word Lost = codes "lost"

-- the words of a volume
abbrev pub share_words : Share → List (List ℕ)
share_words s = s.tenant ∷ s.job ∷ decimal_word s.volume ∷ []

-- the words of a node of a job and its worker
abbrev pub assignment_words : Assignment → List (List ℕ)
assignment_words a = a.tenant ∷ a.job ∷ decimal_word a.index ∷ decimal_word a.worker ∷ []

-- the words of an event's line
abbrev pub event_words : Event → List (List ℕ)
event_words (Open tenant job ask) = codes "o" ∷ tenant ∷ job ∷ ask_words ask
event_words (Revise tenant job number) = codes "r" ∷ tenant ∷ job ∷ decimal_word number ∷ []
event_words (Reask tenant job weight) = codes "q" ∷ tenant ∷ job ∷ decimal_word weight.priority ∷ decimal_word weight.demand ∷ []
event_words (Close tenant job) = codes "c" ∷ tenant ∷ job ∷ []
event_words (Balance volumes) = codes "b" ∷ flat_map share_words volumes
event_words (Start tenant job index worker) = codes "s" ∷ tenant ∷ job ∷ decimal_word index ∷ decimal_word worker ∷ []
event_words (Finish tenant job index worker outcome) = codes "f" ∷ tenant ∷ job ∷ decimal_word index ∷ decimal_word worker ∷ outcome_word outcome ∷ []
event_words (Exchange tenant job) = codes "x" ∷ tenant ∷ job ∷ []
event_words (Leave tenant job) = codes "g" ∷ tenant ∷ job ∷ []
event_words (Arrive tenant job) = codes "n" ∷ tenant ∷ job ∷ []

-- an event that version 1 of the format does not have
abbrev pub is_of_version_2 : Event → Bool
is_of_version_2 (Reask tenant job weight) = true
is_of_version_2 event = false

-- an event that only version 3 of the format has: a job moves between halls
abbrev pub is_of_version_3 : Event → Bool
is_of_version_3 (Leave tenant job) = true
is_of_version_3 (Arrive tenant job) = true
is_of_version_3 event = false

-- the version of the format in which events are told, which is known before the first byte
abbrev pub version_of : List Event → ℕ
version_of events =
    if list_any is_of_version_3 events then 3 else
    if list_any is_of_version_2 events then 2 else
    1

-- the words of the first line: the version and the number of workers
abbrev pub header_words : ℕ → ℕ → List (List ℕ)
header_words version workers = codes "h" ∷ codes "mal" ∷ decimal_word version ∷ decimal_word workers ∷ []

-- the text of a history: the first line, then a line an event
unfoldable pub history_text : ℕ → List Event → List ℕ
history_text workers events = text_of (header_words (version_of events) workers ∷ map event_words events)
