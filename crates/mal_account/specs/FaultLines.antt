-- The lines that tell why a text is no account.
use Rattle.std.specs.Prelude.{ℕ, List, [], ◌∷◌, codes}
use Rattle.spec_text.specs.Lines.{line_of}
use Rattle.spec_text.specs.Numbers.{decimal_word}
use Rattle.spec_script.specs.FaultLines as script
use Rattle.mal_history.specs.Reading as history
use Rattle.mal_account.specs.Accounts.{Fault}
use Rattle.mal_account.specs.Accounts.Fault.{NoHistory, InScript, InHistory}

-- the word of a fault of a history's line
abbrev pub history_word : history.Fault → List ℕ
history_word history.Fault.BadLine = codes "BadLine"
history_word history.Fault.BadNumber = codes "BadNumber"
history_word history.Fault.TooLong = codes "TooLong"

-- the line that tells a word of this line of the history
abbrev pub history_line : ℕ → List ℕ → List ℕ
history_line n word = line_of (codes "fault:" ∷ codes "history" ∷ codes "line" ∷ decimal_word n ∷ word ∷ [])

-- the line that tells a fault
abbrev pub fault_line : Fault → List ℕ
fault_line NoHistory = line_of (codes "fault:" ∷ codes "no" ∷ codes "history" ∷ [])
fault_line (InScript n fault) = script.fault_line n fault
fault_line (InHistory n fault) = history_line n (history_word fault)
