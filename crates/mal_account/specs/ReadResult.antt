-- What the answers of reading accounts say.
use Rattle.std.specs.Prelude.{◌≡◌, ℕ, true, false, List, Option, Some, None, Result}
use Rattle.std.specs.Borrow.{Bor}
use Rattle.std.specs.List.{list_any}
use Rattle.spec_text.specs.Faults.{GivesBy}
use Rattle.spec_dimacs.specs.Rows.{rows_of}
use Rattle.mal_script.specs.declared.fault.ScriptFault.{ScriptFault}
use Rattle.mal_script.specs.declared.fault.ScriptFault.TheVariants as script
use Rattle.mal_history.specs.Reading as reading
use Rattle.mal_history.specs.ReadResult as history_given
use Rattle.mal_history.specs.declared.fault.HistoryFault.{HistoryFault}
use Rattle.mal_history.specs.declared.fault.HistoryFault.TheVariants as history
use Rattle.mal_account.specs.Accounts as account
use Rattle.mal_account.specs.Accounts.Fault.{NoHistory, InScript, InHistory}
use Rattle.mal_account.specs.declared.account.Account.{Account}
use Rattle.mal_account.specs.declared.fault.AccountFault.{AccountFault}
use Rattle.mal_account.specs.declared.fault.AccountFault.TheVariants as answer

-- an account without the room of its history
abbrev pub seen : Account → account.Account
seen a = record { script = a.script; history = history_given.seen a.history }

-- the fault of a script's line, none when out of memory
abbrev pub in_script : ScriptFault → Option account.Fault
in_script (script.Line n fault) = Some (InScript n fault)
in_script script.OutOfMemory = None

-- the fault of a history's line, none when out of memory
abbrev pub in_history : HistoryFault → Option account.Fault
in_history (history.BadLine n) = Some (InHistory n reading.Fault.BadLine)
in_history (history.BadNumber n) = Some (InHistory n reading.Fault.BadNumber)
in_history (history.TooLong n) = Some (InHistory n reading.Fault.TooLong)
in_history history.OutOfMemory = None

-- the fault of a text, none when out of memory
abbrev pub fault_of : AccountFault → Option account.Fault
fault_of answer.NoHistory = Some NoHistory
fault_of (answer.Script fault) = in_script fault
fault_of (answer.History fault) = in_history fault
fault_of answer.OutOfMemory = None

-- what was answered, seen by view, is what reading gives, unless memory ran out
abbrev pub Gives : {X Y : Type 0} → (X → Y) → Result X AccountFault → Result Y account.Fault → Type 0
Gives view answer read = GivesBy fault_of view answer read

-- two texts are those before and after the first line `history` among the lines of a text; none where no line is that
-- word
abbrev pub IsCut : Option (Bor (List ℕ) × Bor (List ℕ)) → List (List (List ℕ)) → Type 0
IsCut None rows = list_any account.is_history_line rows ≡ false
IsCut (Some (before, after)) rows = (list_any account.is_history_line rows ≡ true) × (rows_of before.now ≡ account.script_rows rows) × (rows_of after.now ≡ account.history_rows rows)
