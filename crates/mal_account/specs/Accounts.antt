-- Reading an account of a run: a script and the history of a hall that ran it, or the first fault.
use Rattle.std.specs.Prelude.{ℕ, Bool, List, [], ◌∷◌, codes, if◌then◌else◌, Result, Ok, Err}
use Rattle.std.specs.List.{list_any}
use Rattle.spec_text.specs.Inputs.{is_word_line}
use Rattle.spec_dimacs.specs.Rows.{rows_of}
use Rattle.spec_dimacs.specs.Reading.{◌>>=◌}
use Rattle.mal_base.specs.declared.line_fault.LineFault.{LineFault}
use Rattle.mal_base.specs.Limits.{limits}
use Rattle.spec_script.specs.Script.{Scripted}
use Rattle.spec_script.specs.Reading as script
use Rattle.mal_history.specs.Reading as history

-- a script, and a history with the line of each event
pub record Account : Type 0 where
  pub script : Scripted
  pub history : history.Read

-- the first fault of a text: no line says `history`, a line of the script is wrong, or a line of the history, which are
-- numbered from 1 on after the line `history`
pub data Fault : Type 0 where
  NoHistory : Fault
  InScript : (line : ℕ) → (fault : LineFault) → Fault
  InHistory : (line : ℕ) → (fault : history.Fault) → Fault

-- the line of the one word `history`
abbrev pub is_history_line : List (List ℕ) → Bool
is_history_line row = is_word_line (codes "history") row

-- the lines of the script: those before the first line `history`
abbrev pub script_rows : List (List (List ℕ)) → List (List (List ℕ))
script_rows [] = []
script_rows (row ∷ rows) = if is_history_line row then [] else row ∷ script_rows rows

-- the lines of the history: those after it
abbrev pub history_rows : List (List (List ℕ)) → List (List (List ℕ))
history_rows [] = []
history_rows (row ∷ rows) = if is_history_line row then rows else history_rows rows

-- a fault of the script, and one of the history
abbrev pub in_script : {A : Type 0} → Result A (ℕ × LineFault) → Result A Fault
in_script (Ok x) = Ok x
in_script (Err (line, fault)) = Err (InScript line fault)

abbrev pub in_history : {A : Type 0} → Result A (ℕ × history.Fault) → Result A Fault
in_history (Ok x) = Ok x
in_history (Err (line, fault)) = Err (InHistory line fault)

-- the account of the lines of a text, of which one says `history`
abbrev pub read_lines : List (List (List ℕ)) → Result Account Fault
read_lines rows =
    in_script (script.read_rows limits (script_rows rows) 0 script.unread)
    >>= λ s. in_history (history.read_rows (history_rows rows))
    >>= λ h. Ok (record { script = s; history = h })

-- the account of a text, or its first fault; the line `history` is looked for before anything else is read
abbrev pub read_text : List ℕ → Result Account Fault
read_text text = if list_any is_history_line (rows_of text) then read_lines (rows_of text) else Err NoHistory
