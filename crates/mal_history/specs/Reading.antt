-- Reading a history line by line: the history, or the first fault with its line.
use Rattle.std.specs.Prelude.{ℕ, suc, ◌^◌, Bool, true, false, ◌&&◌, List, [], ◌∷◌, codes, bytes_eq, ◌==◌, nat_lt, nat_le, if◌then◌else◌, pos, Option, Some, None, Result, Ok, Err}
use Rattle.mal_base.specs.Limits.{limits}
use Rattle.mal_base.specs.Asks.{Terms, Weighed}
use Rattle.mal_base.specs.Names.{is_name}
use Rattle.mal_base.specs.declared.verdict.Outcome.{Outcome}
use Rattle.mal_base.specs.declared.verdict.Outcome.TheVariants.{Ran, Starved, Lost}
use Rattle.mal_base.specs.Profiles as profiles
use Rattle.mal_base.specs.Profiles.{number}
use Rattle.mal_base.specs.declared.profile.Profile.{Profile}
use Rattle.mal_base.specs.declared.profile.Profile.TheVariants.{Plain}
use Rattle.spec_text.specs.Asks.{ask_in, is_first, profile_in, weight_in}
use Rattle.spec_text.specs.Numbers.{NumberWord, number_in}
use Rattle.spec_text.specs.Numbers.NumberWord.{NotANumber, TooLarge, Number}
use Rattle.spec_dimacs.specs.Rows.{rows_of}
use Rattle.spec_dimacs.specs.Reading.{◌>>=◌}
use Rattle.mal_history.specs.declared.event.Event.{Event}
use Rattle.mal_history.specs.declared.event.Event.TheVariants.{Open, Revise, Reask, Close, Balance, Start, Finish, Exchange}
use Rattle.mal_history.specs.declared.event.Share.{Share}
use Rattle.mal_history.specs.declared.line.Header.{Header}
use Rattle.mal_history.specs.Sizes.{most_workers, last_node}

-- what can be wrong with a line of a history
pub data Fault : Type 0 where
  BadLine : Fault
  BadNumber : Fault
  TooLong : Fault

-- a history that is read: the number of workers, the events, and the line of each
pub record Read : Type 0 where
  pub workers : ℕ
  pub events : List Event
  pub lines : List ℕ

-- a number from `low` to `high`
abbrev pub ranged : ℕ → ℕ → NumberWord → Result ℕ Fault
ranged low high (Number (pos n)) = if nat_le low n && nat_le n high then Ok n else Err BadNumber
ranged low high word = Err BadNumber

-- the number that a word says, from `low` to `high`
abbrev pub in_range : ℕ → ℕ → List ℕ → Result ℕ Fault
in_range low high word = ranged low high (number_in word high)

-- the version of the format that a word says, each in one spelling
abbrev pub version_said : List ℕ → Result ℕ Fault
version_said word =
    if bytes_eq word (codes "1") then Ok 1 else
    if bytes_eq word (codes "2") then Ok 2 else
    Err BadLine

-- the version and the number of workers that the words of the first line say
abbrev pub header_of : List (List ℕ) → Result Header Fault
header_of (h ∷ mal ∷ version ∷ workers ∷ []) =
    if bytes_eq h (codes "h") && bytes_eq mal (codes "mal")
    then version_said version >>= (λ v. in_range 1 most_workers workers >>= λ w. Ok (record { version = v; workers = w }))
    else Err BadLine
header_of others = Err BadLine

-- what is read of the words of numbers, of which each other word is a bad number
abbrev pub or_bad_number : {A F : Type 0} → Result A F → Result A Fault
or_bad_number (Ok x) = Ok x
or_bad_number (Err fault) = Err BadNumber

-- the ask of three words and of a profile
abbrev pub ask_of : List ℕ → List ℕ → List ℕ → Profile → Result Terms Fault
ask_of p d s profile = or_bad_number (ask_in p d s (Number (pos (number profile))))

-- the weight of two words
abbrev pub weight_of : List ℕ → List ℕ → Result Weighed Fault
weight_of p d = or_bad_number (weight_in p d)

-- a profile that is written, which the first one is not
abbrev pub other_profile : Option Profile → Result Profile Fault
other_profile None = Err BadNumber
other_profile (Some profile) = if is_first profile then Err BadNumber else Ok profile

-- the profile that is said after an ask: the number of none that is written is out of range, and a word that is no
-- number is none that stands there
abbrev pub profile_said : NumberWord → Result Profile Fault
profile_said NotANumber = Err BadLine
profile_said TooLarge = Err BadNumber
profile_said (Number z) = other_profile (profiles.profile_of z)

-- the profile that the words after an ask say: no word says the first
abbrev pub profile_of : List (List ℕ) → Result Profile Fault
profile_of [] = Ok Plain
profile_of (word ∷ words) = profile_said (profile_in (word ∷ words))

-- the outcome that a word says
abbrev pub outcome_of : List ℕ → Result Outcome Fault
outcome_of word =
    if bytes_eq word (codes "ran") then Ok Ran else
    if bytes_eq word (codes "starved") then Ok Starved else
    if bytes_eq word (codes "lost") then Ok Lost else
    Err BadLine

-- the events of a job of a tenant, each of the words after their names
abbrev pub opened : List ℕ → List ℕ → List (List ℕ) → Result Event Fault
opened tenant job (priority ∷ demand ∷ slices ∷ words) = profile_of words >>= λ profile. ask_of priority demand slices profile >>= λ ask. Ok (Open tenant job ask)
opened tenant job words = Err BadLine

abbrev pub revised : List ℕ → List ℕ → List (List ℕ) → Result Event Fault
revised tenant job (number ∷ []) = in_range 1 limits.revisions number >>= λ r. Ok (Revise tenant job r)
revised tenant job words = Err BadLine

abbrev pub reasked : List ℕ → List ℕ → List (List ℕ) → Result Event Fault
reasked tenant job (priority ∷ demand ∷ []) = weight_of priority demand >>= λ weight. Ok (Reask tenant job weight)
reasked tenant job words = Err BadLine

abbrev pub closed : List ℕ → List ℕ → List (List ℕ) → Result Event Fault
closed tenant job [] = Ok (Close tenant job)
closed tenant job (word ∷ words) = Err BadLine

abbrev pub started : ℕ → List ℕ → List ℕ → List (List ℕ) → Result Event Fault
started workers tenant job (index ∷ worker ∷ []) = in_range 0 last_node index >>= λ i. in_range 1 workers worker >>= λ w. Ok (Start tenant job i w)
started workers tenant job words = Err BadLine

abbrev pub finished : ℕ → List ℕ → List ℕ → List (List ℕ) → Result Event Fault
finished workers tenant job (index ∷ worker ∷ outcome ∷ []) =
    outcome_of outcome >>= λ o. in_range 0 last_node index >>= λ i. in_range 1 workers worker >>= λ w. Ok (Finish tenant job i w o)
finished workers tenant job words = Err BadLine

abbrev pub exchanged : List ℕ → List ℕ → List (List ℕ) → Result Event Fault
exchanged tenant job [] = Ok (Exchange tenant job)
exchanged tenant job (word ∷ words) = Err BadLine

-- the event of this kind, by its letter; only version 2 has a `q` line
abbrev pub event_of_job : ℕ → ℕ → List ℕ → List ℕ → List ℕ → List (List ℕ) → Result Event Fault
event_of_job version workers kind tenant job words =
    if bytes_eq kind (codes "o") then opened tenant job words else
    if bytes_eq kind (codes "r") then revised tenant job words else
    if bytes_eq kind (codes "q") && version == 2 then reasked tenant job words else
    if bytes_eq kind (codes "c") then closed tenant job words else
    if bytes_eq kind (codes "s") then started workers tenant job words else
    if bytes_eq kind (codes "f") then finished workers tenant job words else
    if bytes_eq kind (codes "x") then exchanged tenant job words else
    Err BadLine

-- after the letter stand the names of a tenant and of a job
abbrev pub named_event : ℕ → ℕ → List ℕ → List (List ℕ) → Result Event Fault
named_event version workers kind (tenant ∷ job ∷ words) = if is_name tenant && is_name job then event_of_job version workers kind tenant job words else Err BadLine
named_event version workers kind words = Err BadLine

-- words that are a tenant's name, a job's name and a word for its volume, and so on
abbrev pub are_shares : List (List ℕ) → Bool
are_shares [] = true
are_shares (tenant ∷ job ∷ volume ∷ words) = is_name tenant && is_name job && are_shares words
are_shares words = false

-- the volumes that such words say
abbrev pub shares_of : List (List ℕ) → Result (List Share) Fault
shares_of (tenant ∷ job ∷ volume ∷ words) =
    in_range 0 limits.demand volume >>= λ v. shares_of words >>= λ shares. Ok (record { tenant = tenant; job = job; volume = v } ∷ shares)
shares_of words = Ok []

abbrev pub balanced : List (List ℕ) → Result Event Fault
balanced words = if are_shares words then shares_of words >>= (λ shares. Ok (Balance shares)) else Err BadLine

-- the event that the words of a line say, in this version of the format, in a history of so many workers
abbrev pub event_of : ℕ → ℕ → List (List ℕ) → Result Event Fault
event_of version workers [] = Err BadLine
event_of version workers (kind ∷ words) = if bytes_eq kind (codes "b") then balanced words else named_event version workers kind words

-- the event of a line after so many events, of which there may be `max`
abbrev pub next_event : ℕ → ℕ → ℕ → ℕ → List (List ℕ) → Result Event Fault
next_event max version workers count words = event_of version workers words >>= λ e. if nat_lt count max then Ok e else Err TooLong

-- a fault with its line
abbrev pub on_line : {A : Type 0} → ℕ → Result A Fault → Result A (ℕ × Fault)
on_line line (Ok x) = Ok x
on_line line (Err fault) = Err (line, fault)

-- the history with one more event in front
abbrev pub with_event : ℕ → Event → Read → Read
with_event line e h = record { workers = h.workers; events = e ∷ h.events; lines = line ∷ h.lines }

-- the events of the lines that are left, after so many lines and so many events; empty lines are passed over
abbrev pub events_from : ℕ → ℕ → ℕ → ℕ → ℕ → List (List (List ℕ)) → Result Read (ℕ × Fault)
events_from max version workers line count [] = Ok (record { workers = workers; events = []; lines = [] })
events_from max version workers line count ([] ∷ rows) = events_from max version workers (suc line) count rows
events_from max version workers line count ((word ∷ words) ∷ rows) =
    on_line (suc line) (next_event max version workers count (word ∷ words)) >>= λ e. events_from max version workers (suc line) (suc count) rows >>= λ h. Ok (with_event (suc line) e h)

-- the history of the lines that are left, after so many empty lines; where no line has words, line 1 is wrong
abbrev pub history_from : ℕ → ℕ → List (List (List ℕ)) → Result Read (ℕ × Fault)
history_from max line [] = Err (1, BadLine)
history_from max line ([] ∷ rows) = history_from max (suc line) rows
history_from max line ((word ∷ words) ∷ rows) = on_line (suc line) (header_of (word ∷ words)) >>= λ header. events_from max header.version header.workers (suc line) 0 rows

-- a history has at most 2^24 events
abbrev pub most_events : ℕ
most_events = 2 ^ 24

-- the history of these lines, or its first fault with its line
abbrev pub read_rows : List (List (List ℕ)) → Result Read (ℕ × Fault)
read_rows rows = history_from most_events 0 rows

-- the history of a text
abbrev pub read_text : List ℕ → Result Read (ℕ × Fault)
read_text text = read_rows (rows_of text)
