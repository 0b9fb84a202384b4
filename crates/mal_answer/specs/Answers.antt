-- What the steps of a command answer.
use Rattle.std.specs.Prelude.{◌≡◌, ℕ, Bool, true, false, List, [], ◌⊎◌, Result, Ok, Err, flat_map, map}
use Rattle.mal_answer.specs.Command.{Command, Refuses, Denies}
use Rattle.mal_answer.specs.Commands.{nowhere, running}
use Rattle.mal_answer.specs.Devices.{Device, Failed, Gave, GaveTooMuch, AreSilent, WroteWhole, WrotePart, Complained, too_long_line}
use Rattle.mal_answer.specs.declared.answer.Complaint.{Complaint}
use Rattle.mal_answer.specs.declared.answer.Complaint.TheVariants as complaint
use Rattle.mal_answer.specs.declared.answer.Texts.{Texts}
use Rattle.mal_answer.specs.Summaries.{lines_summary}
use Rattle.mal_hall.specs.HallView.{HallView}
use Rattle.mal_history.specs.Text.{history_text}
use Rattle.mal_json.specs.ReadResult as json
use Rattle.spec_json.specs.declared.fault.JsonFault.{JsonFault}
use Rattle.mal_script.specs.declared.fault.ScriptFault.{ScriptFault}
use Rattle.mal_script.specs.ReadResult.{Tells}
use Rattle.spec_hall.specs.Events.{bare}

-- the text of the history of a hall
abbrev pub hall_text : HallView → List ℕ
hall_text hall = history_text hall.workers (map bare hall.events)

-- the text of histories, one after the other
abbrev pub logged : List HallView → List ℕ
logged halls = flat_map hall_text halls

-- a complaint of these: one whose line says why a text is refused or why it is denied, or that memory ran out
abbrev pub Complains : (List ℕ → Type 0) → (List ℕ → Type 0) → Complaint → Type 0
Complains Refused Denied complaint.Unread = ⊥
Complains Refused Denied complaint.TooLong = ⊥
Complains Refused Denied (complaint.Refused line) = Refused line.items
Complains Refused Denied (complaint.Denied line) = Denied line.items
Complains Refused Denied complaint.OutOfMemory = Unit {0}

-- no line says so
abbrev pub NoLine : List ℕ → Type 0
NoLine line = ⊥

-- a command's answer to a text: what it gives, why it gives nothing, or memory ran out
abbrev pub IsAnswerTo : Command → List ℕ → Result Texts Complaint → Type 0
IsAnswerTo c text (Ok texts) = c.Gives text (logged texts.log.items) texts.out.items
IsAnswerTo c text (Err complaint) = Complains (Refuses c text) (Denies c text) complaint

-- why a source gave no text
abbrev pub IsUnread : Device → Complaint → Type 0
IsUnread source complaint.Unread = Failed source
IsUnread source complaint.TooLong = GaveTooMuch source
IsUnread source (complaint.Refused line) = ⊥
IsUnread source (complaint.Denied line) = ⊥
IsUnread source complaint.OutOfMemory = Unit {0}

-- the count of faults of a source stayed, unless the complaint is that it failed
abbrev pub StayedBut : Device → Complaint → Type 0
StayedBut source complaint.Unread = Unit {0}
StayedBut source complaint.TooLong = source.faults_now ≡ source.faults
StayedBut source (complaint.Refused line) = source.faults_now ≡ source.faults
StayedBut source (complaint.Denied line) = source.faults_now ≡ source.faults
StayedBut source complaint.OutOfMemory = source.faults_now ≡ source.faults

-- the same, unless what is answered is that complaint
abbrev pub StayedCalm : {A : Type 0} → Device → Result A Complaint → Type 0
StayedCalm source (Ok x) = source.faults_now ≡ source.faults
StayedCalm source (Err e) = StayedBut source e

-- what a command reads of a source, by whether it has an input: all that it gives to its end, or nothing
abbrev pub IsInput : Bool → Device → List ℕ → Type 0
IsInput true source text = Gave source text
IsInput false source text = text ≡ []

-- why a command has read nothing
abbrev pub IsMissed : Bool → Device → Complaint → Type 0
IsMissed true source e = IsUnread source e
IsMissed false source e = ⊥

-- an answer to a source that gave no text
abbrev pub IsUnanswered : Bool → Device → Result Texts Complaint → Type 0
IsUnanswered reads source (Ok texts) = ⊥
IsUnanswered reads source (Err e) = IsMissed reads source e

-- a command's answer to what it reads
abbrev pub answer_by : Bool → Command → Device → Result Texts Complaint → Type 0
answer_by reads c source answer = ((text : List ℕ) × IsInput reads source text × IsAnswerTo c text answer) ⊎ IsUnanswered reads source answer

abbrev pub IsAnswer : Command → Device → Result Texts Complaint → Type 0
IsAnswer c source answer = answer_by c.has_input c source answer

-- what is written for texts, and the status
abbrev pub IsFinished : Device → Device → List ℕ → List ℕ → ℕ → Type 0
IsFinished log out log_text out_text status =
    ((status ≡ 0) × WroteWhole log out log_text out_text)
    ⊎ ((status ≡ 5) × (Failed log ⊎ Failed out) × WrotePart log out log_text out_text)

-- what is written for an answer, and the status
abbrev pub IsConcluded : Device → Device → Result Texts Complaint → ℕ → Type 0
IsConcluded log out (Ok texts) status = IsFinished log out (logged texts.log.items) texts.out.items status
IsConcluded log out (Err complaint.Unread) status = (status ≡ 4) × AreSilent log out
IsConcluded log out (Err complaint.TooLong) status = (status ≡ 3) × Complained log out too_long_line
IsConcluded log out (Err (complaint.Refused line)) status = (status ≡ 3) × Complained log out line.items
IsConcluded log out (Err (complaint.Denied line)) status = (status ≡ 7) × Complained log out line.items
IsConcluded log out (Err complaint.OutOfMemory) status = (status ≡ 6) × AreSilent log out

-- the complaint about a text that spells no script: the line tells its first fault, or memory ran out
abbrev pub IsScriptRefusal : List ℕ → Complaint → Type 0
IsScriptRefusal text complaint = Complains (Refuses (running nowhere 1) text) NoLine complaint

-- the complaint tells a fault of a script, or memory ran out
abbrev pub TellsScriptFault : ScriptFault → Complaint → Type 0
TellsScriptFault fault complaint = Complains (Tells fault) NoLine complaint

-- the complaint tells a fault of a description, or memory ran out
abbrev pub TellsDescriptionFault : JsonFault → Complaint → Type 0
TellsDescriptionFault fault complaint = Complains (json.Tells fault) NoLine complaint

-- the log of a run, with the summary of the lines of its replies for the output
abbrev pub IsSummaryOf : ℕ → List ℕ → List ℕ → Result Texts Complaint → Type 0
IsSummaryOf jobs log replies (Ok texts) = (logged texts.log.items ≡ log) × (texts.out.items ≡ lines_summary jobs replies)
IsSummaryOf jobs log replies (Err complaint) = Complains NoLine NoLine complaint
