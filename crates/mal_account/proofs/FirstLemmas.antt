-- What is told of a text whose first fault is on a line, whatever stands after that line.
use Rattle.std.proofs.Common.{◌≡◌, ◌≢◌, ℕ, cond, Bool, List, [], ◌∷◌, ◌++◌, codes, Result, Ok, Err, refl, sym, ap, ap₂, ◌∙◌}
use Rattle.std.specs.List.{list_any}
use Rattle.spec_dimacs.specs.Rows.{rows_of}
use Rattle.spec_dimacs.specs.Reading.{◌>>=◌}
use Rattle.mal_base.specs.declared.line_fault.LineFault.{LineFault}
use Rattle.mal_base.specs.Limits.{limits}
use Rattle.spec_script.specs.Script.{Scripted}
use Rattle.spec_script.specs.Reading as script
use Rattle.spec_script.proofs.Firsts as scripts
use Rattle.mal_history.specs.Grammar.{numbered}
use Rattle.mal_history.specs.Laws.{FaultIsFirst}
use Rattle.mal_history.specs.Reading as history
use Rattle.mal_account.specs.Accounts.{Account, Fault, is_history_line, in_script, in_history, read_lines, read_text}
use Rattle.mal_account.specs.Accounts.Fault.{NoHistory, InHistory, InScript}
use Rattle.mal_account.specs.Laws.{IsCutBehind, HistoryFaultIsFirst, ScriptFaultIsFirst, ScriptFaultStays}
use Rattle.mal_account.proofs.RowLemmas.{some-line, script-before, history-after}

-- the account of a script and a history that are read so
abbrev account_of : Result Scripted (ℕ × LineFault) → Result history.Read (ℕ × history.Fault) → Result Account Fault
account_of s h = in_script s >>= λ x. in_history h >>= λ y. Ok (record { script = x; history = y })

text-cut : (text first : List ℕ) (behind : List (List (List ℕ))) → IsCutBehind text first behind → read_text text ≡ account_of (script.read_text limits first) (history.read_rows behind)
text-cut text first behind c =
    ap (λ (rs : List (List (List ℕ))). cond (list_any is_history_line rs) (read_lines rs) (Err NoHistory)) c.1
    ∙ ap (λ (b : Bool). cond b (read_lines (rows_of first ++ (codes "history" ∷ []) ∷ behind)) (Err NoHistory)) (some-line (rows_of first) behind (codes "history" ∷ []) refl)
    ∙ ap₂ (λ (f b : List (List (List ℕ))). account_of (script.read_rows limits f 0 script.unread) (history.read_rows b)) (script-before (rows_of first) behind (codes "history" ∷ []) c.0 refl) (history-after (rows_of first) behind (codes "history" ∷ []) c.0 refl)

-- such a fault is one of the script's text
script-faulty : (s : Result Scripted (ℕ × LineFault)) (h : Result history.Read (ℕ × history.Fault)) (line : ℕ) (fault : LineFault) → account_of s h ≡ Err (InScript line fault) → s ≡ Err (line, fault)
script-faulty (Err (n, f)) h line fault e = let first : n ≡ line = cc in let second : f ≡ fault = cc in ap₂ (λ (x : ℕ) (y : LineFault). Err (x, y)) first second
script-faulty (Ok x) (Ok y) line fault e = absurd (cc)
script-faulty (Ok x) (Err (n, f)) line fault e = absurd (cc)

-- and is told whatever the history is
told-first : (first : List ℕ) (h : Result history.Read (ℕ × history.Fault)) (line : ℕ) (fault : LineFault) → script.read_text limits first ≡ Err (line, fault) → account_of (script.read_text limits first) h ≡ Err (InScript line fault)
told-first first h line fault e = ap (λ (s : Result Scripted (ℕ × LineFault)). account_of s h) e

pub script_fault_stays : ScriptFaultStays
script_fault_stays first behind others text other line fault c d e =
    let faulty = script-faulty (script.read_text limits first) (history.read_rows behind) line fault (sym (text-cut text first behind c) ∙ e) in
    text-cut other first others d ∙ told-first first (history.read_rows others) line fault faulty

pub script_fault_is_first : ScriptFaultIsFirst
script_fault_is_first first front behind others text other line fault c d e low same =
    let faulty = script-faulty (script.read_text limits first) (history.read_rows behind) line fault (sym (text-cut text first behind c) ∙ e) in
    text-cut other front others d ∙ told-first front (history.read_rows others) line fault (scripts.fault_is_first limits first front line fault faulty low same)

-- a fault of the history is one of its text, after a script that is read
pub record IsHistoryFaulty (s : Result Scripted (ℕ × LineFault)) (h : Result history.Read (ℕ × history.Fault)) (line : ℕ) (fault : history.Fault) : Type 0 where
  pub script : Scripted
  pub script_read : s ≡ Ok script
  pub faulty : h ≡ Err (line, fault)

history-faulty : (s : Result Scripted (ℕ × LineFault)) (h : Result history.Read (ℕ × history.Fault)) (line : ℕ) (fault : history.Fault) → account_of s h ≡ Err (InHistory line fault) → IsHistoryFaulty s h line fault
history-faulty (Err (n, f)) h line fault e = absurd (cc)
history-faulty (Ok x) (Ok y) line fault e = absurd (cc)
history-faulty (Ok x) (Err (n, f)) line fault e = let number : n ≡ line = cc in let same : f ≡ fault = cc in record { script = x; script_read = refl; faulty = ap₂ (λ (m : ℕ) (y : history.Fault). Err (m, y)) number same }

pub history_fault_is_first : FaultIsFirst → HistoryFaultIsFirst
history_fault_is_first fault_is_first first last end text other line fault c d e some same =
    let faulty = history-faulty (script.read_text limits first) (history.read_rows (rows_of last)) line fault (sym (text-cut text first (rows_of last) c) ∙ e) in
    text-cut other first (rows_of end) d
    ∙ ap₂ (λ (s : Result Scripted (ℕ × LineFault)) (h : Result history.Read (ℕ × history.Fault)). account_of s h) faulty.script_read (fault_is_first last end line fault faulty.faulty some same)
