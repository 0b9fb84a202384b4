-- What holds of every text, in the form in which the law functions state it.
use Rattle.std.specs.Prelude.{◌≡◌, ◌≢◌, ◌↔◌, ◌<◌, ℕ, false, List, [], ◌∷◌, ◌++◌, length, take, codes, Ok, Err}
use Rattle.std.specs.List.{list_any}
use Rattle.mal_base.specs.declared.line_fault.LineFault.{LineFault}
use Rattle.spec_text.specs.Inputs.{lines_of}
use Rattle.spec_dimacs.specs.Rows.{rows_of}
use Rattle.mal_history.specs.declared.event.Event.{Event}
use Rattle.mal_history.specs.Formed.{IsHistory, written_read}
use Rattle.mal_history.specs.Grammar.{numbered}
use Rattle.mal_history.specs.Reading as history
use Rattle.mal_history.specs.Text.{history_text}
use Rattle.spec_script.specs.Formed.{IsScript}
use Rattle.mal_base.specs.Limits.{limits}
use Rattle.spec_script.specs.Script.{Scripted, spelling}
use Rattle.mal_account.specs.Accounts.{Account, is_history_line, read_text}
use Rattle.mal_account.specs.Accounts.Fault.{InHistory, InScript}
use Rattle.mal_account.specs.Grammar.{Spells}

-- a text spells an account exactly where reading gives it: no text spells two accounts, or has a first fault and spells
-- one
abbrev pub SpelledIsRead : Type 0
SpelledIsRead = (text : List ℕ) (a : Account) → Spells text a ↔ (read_text text ≡ Ok a)

-- a script in form and a history in form are read again from their texts with the line `history` between them
abbrev pub WrittenIsRead : Type 0
WrittenIsRead =
    (s : Scripted) (workers : ℕ) (events : List Event) → IsScript limits s → IsHistory workers events
    → read_text (spelling s ++ (codes "history\n" ++ history_text workers events)) ≡ Ok (record { script = s; history = written_read workers events })

-- the lines of a text are those of this one, none of which says `history`, the line `history`, and these ones
abbrev pub IsCutBehind : List ℕ → List ℕ → List (List (List ℕ)) → Type 0
IsCutBehind text first behind = (list_any is_history_line (rows_of first) ≡ false) × (rows_of text ≡ rows_of first ++ (codes "history" ∷ []) ∷ behind)

-- nothing after a faulty line of the script counts: no line of the history, and where the fault is on a line before the
-- last of the script no line after that one
abbrev pub ScriptFaultStays : Type 0
ScriptFaultStays =
    (first : List ℕ) (behind others : List (List (List ℕ))) (text other : List ℕ) (line : ℕ) (fault : LineFault)
    → IsCutBehind text first behind → IsCutBehind other first others → read_text text ≡ Err (InScript line fault) → read_text other ≡ Err (InScript line fault)

abbrev pub ScriptFaultIsFirst : Type 0
ScriptFaultIsFirst =
    (first front : List ℕ) (behind others : List (List (List ℕ))) (text other : List ℕ) (line : ℕ) (fault : LineFault)
    → IsCutBehind text first behind → IsCutBehind other front others → read_text text ≡ Err (InScript line fault)
    → line < length (lines_of first) → take line (lines_of front) ≡ take line (lines_of first) → read_text other ≡ Err (InScript line fault)

-- nor does what stands after a faulty line of the history: where some line of it is not empty, each text with the same
-- script and the same lines of the history, up to that one, has the same first fault
abbrev pub HistoryFaultIsFirst : Type 0
HistoryFaultIsFirst =
    (first last end text other : List ℕ) (line : ℕ) (fault : history.Fault)
    → IsCutBehind text first (rows_of last) → IsCutBehind other first (rows_of end) → read_text text ≡ Err (InHistory line fault)
    → numbered 0 (rows_of last) ≢ [] → take line (lines_of end) ≡ take line (lines_of last) → read_text other ≡ Err (InHistory line fault)
