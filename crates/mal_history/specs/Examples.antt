-- What small texts of histories say.
use Rattle.std.specs.Prelude.{◌≡◌, ℕ, List, [], ◌∷◌, codes, Ok, Err}
use Rattle.mal_base.specs.declared.profile.Profile.{Profile}
use Rattle.mal_base.specs.declared.profile.Profile.TheVariants.{Plain, Lean}
use Rattle.mal_base.specs.declared.verdict.Outcome.TheVariants.{Ran, Starved}
use Rattle.spec_dimacs.specs.Rows.{rows_of}
use Rattle.mal_history.specs.declared.event.Event.{Event}
use Rattle.mal_history.specs.declared.event.Event.TheVariants.{Open, Revise, Reask, Close, Balance, Start, Finish, Exchange, Leave, Arrive}
use Rattle.mal_history.specs.Text.{history_text}
use Rattle.mal_history.specs.Reading.{history_from, read_text}
use Rattle.mal_history.specs.Reading.Fault.{BadLine, BadNumber, TooLong}

-- the opening of the job p of tenant a, under this profile
abbrev pub open_under : Profile → Event
open_under profile = Open (codes "a") (codes "p") (record { priority = 1; demand = 1; slices = 4; profile = profile })

-- the job p of tenant a, from its opening to a finish
abbrev pub first_events : List Event
first_events =
    open_under Plain
    ∷ Revise (codes "a") (codes "p") 1
    ∷ Close (codes "a") (codes "p")
    ∷ Balance (record { tenant = codes "a"; job = codes "p"; volume = 1 } ∷ [])
    ∷ Start (codes "a") (codes "p") 0 1
    ∷ Finish (codes "a") (codes "p") 0 1 Ran
    ∷ []

abbrev pub first_text : List ℕ
first_text = codes "h mal 1 1\no a p 1 1 4\nr a p 1\nc a p\nb a p 1\ns a p 0 1\nf a p 0 1 ran\n"

-- the same with a change of the job's weight, in version 2
abbrev pub second_events : List Event
second_events =
    open_under Plain
    ∷ Revise (codes "a") (codes "p") 1
    ∷ Reask (codes "a") (codes "p") (record { priority = 5; demand = 2 })
    ∷ Close (codes "a") (codes "p")
    ∷ Balance (record { tenant = codes "a"; job = codes "p"; volume = 1 } ∷ [])
    ∷ Start (codes "a") (codes "p") 0 1
    ∷ Finish (codes "a") (codes "p") 0 1 Ran
    ∷ []

abbrev pub second_text : List ℕ
second_text = codes "h mal 2 1\no a p 1 1 4\nr a p 1\nq a p 5 2\nc a p\nb a p 1\ns a p 0 1\nf a p 0 1 ran\n"

-- the job arrives in another hall, where it leaves after a slice: in version 3
abbrev pub third_events : List Event
third_events =
    Arrive (codes "a") (codes "p")
    ∷ Balance (record { tenant = codes "a"; job = codes "p"; volume = 1 } ∷ [])
    ∷ Start (codes "a") (codes "p") 0 1
    ∷ Finish (codes "a") (codes "p") 0 1 Ran
    ∷ Leave (codes "a") (codes "p")
    ∷ []

abbrev pub third_text : List ℕ
third_text = codes "h mal 3 1\nn a p\nb a p 1\ns a p 0 1\nf a p 0 1 ran\ng a p\n"

-- texts that spell histories
pub record HaveHistories : Type 0 where
  pub first : read_text first_text ≡ Ok (record { workers = 1; events = first_events; lines = 2 ∷ 3 ∷ 4 ∷ 5 ∷ 6 ∷ 7 ∷ [] })
  pub second : read_text second_text ≡ Ok (record { workers = 1; events = second_events; lines = 2 ∷ 3 ∷ 4 ∷ 5 ∷ 6 ∷ 7 ∷ 8 ∷ [] })
  pub version_2_without_reask : read_text (codes "h mal 2 1\nx a p\n") ≡ Ok (record { workers = 1; events = Exchange (codes "a") (codes "p") ∷ []; lines = 2 ∷ [] })
  pub of_profile_2 : read_text (codes "h mal 1 1\no a p 1 1 4 2") ≡ Ok (record { workers = 1; events = open_under Lean ∷ []; lines = 2 ∷ [] })
  pub profile_by_value : read_text (codes "h mal 1 1\no a p 1 1 4 02") ≡ Ok (record { workers = 1; events = open_under Lean ∷ []; lines = 2 ∷ [] })
  pub no_event : read_text (codes "h mal 1 64") ≡ Ok (record { workers = 64; events = []; lines = [] })
  pub empty_lines : read_text (codes "\n \t\nh mal 1 002\r\n\n\nb\r\n x  a\tp") ≡ Ok (record { workers = 2; events = Balance [] ∷ Exchange (codes "a") (codes "p") ∷ []; lines = 6 ∷ 7 ∷ [] })
  pub last_worker : read_text (codes "h mal 1 3\nf a p 63 3 starved") ≡ Ok (record { workers = 3; events = Finish (codes "a") (codes "p") 63 3 Starved ∷ []; lines = 2 ∷ [] })

-- histories and their texts: one without a move is written in version 2 where a weight changes, and else in version 1
pub record HaveTexts : Type 0 where
  pub first : history_text 1 first_events ≡ first_text
  pub second : history_text 1 second_events ≡ second_text
  pub version_2_again : history_text 1 (Exchange (codes "a") (codes "p") ∷ []) ≡ codes "h mal 1 1\nx a p\n"
  pub third : history_text 1 third_events ≡ third_text
  pub left_after_reask : history_text 1 (Reask (codes "a") (codes "p") (record { priority = 5; demand = 2 }) ∷ Leave (codes "a") (codes "p") ∷ []) ≡ codes "h mal 3 1\nq a p 5 2\ng a p\n"

-- texts with their first fault
pub record HaveFaults : Type 0 where
  pub no_line : read_text [] ≡ Err (1, BadLine)
  pub empty_lines_alone : read_text (codes "\n\n\n") ≡ Err (1, BadLine)
  pub no_worker : read_text (codes "h mal 1 0") ≡ Err (1, BadNumber)
  pub workers_above : read_text (codes "h mal 1 65") ≡ Err (1, BadNumber)
  pub other_version : read_text (codes "h mal 9 1") ≡ Err (1, BadLine)
  pub version_above : read_text (codes "h mal 3 1") ≡ Err (1, BadLine)
  pub third_is_not_read : read_text third_text ≡ Err (1, BadLine)
  pub arrival_in_version_1 : read_text (codes "h mal 1 1\nn a p\n") ≡ Err (2, BadLine)
  pub leave_in_version_2 : read_text (codes "h mal 2 1\nx a p\ng a p\n") ≡ Err (3, BadLine)
  pub version_is_literal : read_text (codes "h mal 01 1") ≡ Err (1, BadLine)
  pub version_before_workers : read_text (codes "h mal 3 0") ≡ Err (1, BadLine)
  pub no_worker_of_version_2 : read_text (codes "h mal 2 0") ≡ Err (1, BadNumber)
  pub header_missing : read_text (codes "\ns a p 0 1\n") ≡ Err (2, BadLine)
  pub comment : read_text (codes "h mal 1 1\nc made by a tool") ≡ Err (2, BadLine)
  pub other_outcome : read_text (codes "h mal 1 1\nf a p 0 1 done") ≡ Err (2, BadLine)
  pub worker_above : read_text (codes "h mal 1 1\n\ns a p 0 2") ≡ Err (3, BadNumber)
  pub no_such_worker : read_text (codes "h mal 1 1\ns a p 0 0") ≡ Err (2, BadNumber)
  pub index_above : read_text (codes "h mal 1 1\ns a p 64 1") ≡ Err (2, BadNumber)
  pub line_before_number : read_text (codes "h mal 1 1\nf a p x 1 done") ≡ Err (2, BadLine)
  pub name_before_number : read_text (codes "h mal 1 1\nb a p 65 A p 1") ≡ Err (2, BadLine)
  pub profile_one_is_not_said : read_text (codes "h mal 1 1\no a p 1 1 4 1") ≡ Err (2, BadNumber)
  pub profile_above : read_text (codes "h mal 1 1\no a p 1 1 4 3") ≡ Err (2, BadNumber)
  pub profile_is_no_number : read_text (codes "h mal 1 1\no a p 1 1 4 x") ≡ Err (2, BadLine)
  pub profile_before_number : read_text (codes "h mal 1 1\no a p 0 1 4 x") ≡ Err (2, BadLine)
  pub number_before_profile : read_text (codes "h mal 1 1\no a p 0 1 4 2") ≡ Err (2, BadNumber)
  pub two_profiles : read_text (codes "h mal 1 1\no a p 1 1 4 2 2") ≡ Err (2, BadLine)
  pub volume_above : read_text (codes "h mal 1 1\nb a p 64 a q 65") ≡ Err (2, BadNumber)
  pub third_word_missing : read_text (codes "h mal 1 1\nb a p 1 a q") ≡ Err (2, BadLine)
  pub revision_zero : read_text (codes "h mal 1 1\nr a p 0") ≡ Err (2, BadNumber)
  pub word_more : read_text (codes "h mal 1 1\nr a p 0 0") ≡ Err (2, BadLine)
  pub reask_in_version_1 : read_text (codes "h mal 1 1\nx a p\nq a p 5 2") ≡ Err (3, BadLine)
  pub reask_in_version_1_before_number : read_text (codes "h mal 1 1\nq a p 0 1") ≡ Err (2, BadLine)
  pub priority_zero : read_text (codes "h mal 2 1\nq a p 0 1") ≡ Err (2, BadNumber)
  pub priority_above : read_text (codes "h mal 2 1\nq a p 1001 1") ≡ Err (2, BadNumber)
  pub demand_zero : read_text (codes "h mal 2 1\nq a p 1 0") ≡ Err (2, BadNumber)
  pub demand_above : read_text (codes "h mal 2 1\nq a p 1 65") ≡ Err (2, BadNumber)
  pub demand_is_no_number : read_text (codes "h mal 2 1\nq a p 1 x") ≡ Err (2, BadNumber)
  pub demand_missing : read_text (codes "h mal 2 1\nq a p 0") ≡ Err (2, BadLine)
  pub slices_do_not_change : read_text (codes "h mal 2 1\nq a p 5 2 4") ≡ Err (2, BadLine)
  pub name_before_priority : read_text (codes "h mal 2 1\nq a P 0 1") ≡ Err (2, BadLine)
  pub second_header : read_text (codes "h mal 1 1\nh mal 1 1") ≡ Err (2, BadLine)

-- where there may be two events: the third one's own faults come first
pub record HaveLimits : Type 0 where
  pub two : history_from 2 0 (rows_of (codes "h mal 1 1\nx a p\n\nx a p\n")) ≡ Ok (record { workers = 1; events = Exchange (codes "a") (codes "p") ∷ Exchange (codes "a") (codes "p") ∷ []; lines = 2 ∷ 4 ∷ [] })
  pub third : history_from 2 0 (rows_of (codes "h mal 1 1\nx a p\nx a p\n\nx a p\n")) ≡ Err (5, TooLong)
  pub third_is_no_event : history_from 2 0 (rows_of (codes "h mal 1 1\nx a p\nx a p\nr a p 0\n")) ≡ Err (4, BadNumber)
