-- The parts of an account's text, and what answers say of them.
use Rattle.std.proofs.Common.{◌≡◌, ℕ, ◌+◌, ◌≤◌, Bool, true, false, ◌||◌, List, [], ◌∷◌, ◌++◌, map, length, take, codes, Option, Some, None, Result, Ok, Err, refl, sym, ap, ◌∙◌, append_assoc, append-nil, arith}
use Rattle.std.specs.Prelude.{IfOk, MatchResult}
use Rattle.std.specs.List.{list_any}
use Rattle.std.proofs.lemmas.List.{map-append}
use Rattle.std.proofs.lemmas.List.Folds.{list_any-append}
use Rattle.std.proofs.lemmas.Bool.{or_from}
use Rattle.spec_text.specs.Inputs.{lines_of, words_of}
use Rattle.spec_text.specs.Faults.{Fails}
use Rattle.spec_dimacs.specs.Rows.{rows_of}
use Rattle.mal_base.specs.declared.line_fault.LineFault.{LineFault}
use Rattle.mal_base.specs.Limits.{limits}
use Rattle.spec_script.specs.Formed.{IsScript}
use Rattle.spec_script.specs.Script.{Scripted, spelling}
use Rattle.mal_script.specs.declared.fault.ScriptFault.{ScriptFault}
use Rattle.mal_script.specs.declared.fault.ScriptFault.TheVariants as script_fault
use Rattle.mal_script.specs.ReadResult as script_given
use Rattle.mal_history.specs.declared.event.Event.{Event}
use Rattle.mal_history.specs.Formed.{IsHistory, written_read}
use Rattle.mal_history.specs.Text.{history_text}
use Rattle.mal_history.specs.Reading as history
use Rattle.mal_history.specs.ReadResult as history_given
use Rattle.mal_history.specs.declared.fault.HistoryFault.{HistoryFault}
use Rattle.mal_history.specs.declared.fault.HistoryFault.TheVariants as history_fault
use Rattle.mal_account.specs.Accounts as account
use Rattle.mal_account.specs.Accounts.{is_history_line, script_rows, history_rows, read_lines, read_text}
use Rattle.mal_account.specs.Accounts.Fault.{NoHistory}
use Rattle.mal_account.specs.Grammar.{Spells}
use Rattle.mal_account.proofs.LineLemmas.{unlines, prefix-lines, prefix-taken, prefix-line, prefix-more}
use Rattle.mal_account.proofs.RowLemmas.{some-line, script-before, history-after, rows-whole}
use Rattle.mal_account.proofs.ReadLemmas.{spelled-is-read}
use Rattle.mal_account.proofs.AgainLemmas.{written-is-read}
use Rattle.mal_account.specs.declared.account.Account.{Account}
use Rattle.mal_account.specs.declared.fault.AccountFault.{AccountFault}
use Rattle.mal_account.specs.ReadResult.{seen, in_script, in_history, fault_of, Gives}

-- a fault of the script's text, and of the history's, is one of the whole text
pub script_fails : {Y : Type 0} (fault : ScriptFault) (read : Result Y (ℕ × LineFault)) → script_given.FailsAt fault read → Fails (in_script fault) (account.in_script read)
script_fails (script_fault.Line n fault) read h = ap account.in_script h
script_fails script_fault.OutOfMemory read h = tt

pub history_fails : {Y : Type 0} (fault : HistoryFault) (read : Result Y (ℕ × history.Fault)) → history_given.FailsAt fault read → Fails (in_history fault) (account.in_history read)
history_fails (history_fault.BadLine n) read h = ap account.in_history h
history_fails (history_fault.BadNumber n) read h = ap account.in_history h
history_fails (history_fault.TooLong n) read h = ap account.in_history h
history_fails history_fault.OutOfMemory read h = tt

pub ruleset fault_lemmas = (script_fails, history_fails)

-- lines that were passed, none of which is the line `history`, stand before the rest
pub record Passed (text rest : List ℕ) (start : ℕ) : Type 0 where
  pub before : List (List ℕ)
  pub whole : lines_of text ≡ before ++ lines_of rest
  pub start_is : start ≡ length (unlines before)
  pub none : list_any is_history_line (map words_of before) ≡ false

pub passed-none : (text : List ℕ) → Passed text text 0
passed-none text = record { before = []; whole = refl; start_is = refl; none = refl }

pub passed-more : (text rest after row : List ℕ) (start next : ℕ) → Passed text rest start → lines_of rest ≡ row ∷ lines_of after → is_history_line (words_of row) ≡ false → next ≡ start + (length row + 1) → Passed text after next
passed-more text rest after row start next p e other n = record {
  before = p.before ++ row ∷ [];
  whole = p.whole ∙ ap (λ (ls : List (List ℕ)). p.before ++ ls) e ∙ sym (append_assoc p.before (row ∷ []) (lines_of after));
  start_is = n ∙ ap (λ (m : ℕ). m + (length row + 1)) p.start_is ∙ sym (prefix-more p.before row);
  none = ap (list_any is_history_line) (map-append words_of p.before (row ∷ [])) ∙ list_any-append is_history_line (map words_of p.before) (words_of row ∷ []) ∙ or_from (list_any is_history_line (map words_of p.before)) (is_history_line (words_of row) || false) p.none (ap (λ (b : Bool). b || false) other);
}

-- the bytes of the next line are some of the text
pub passed-line : (text rest after row : List ℕ) (start : ℕ) → Passed text rest start → lines_of rest ≡ row ∷ lines_of after → start + length row ≤ length text
passed-line text rest after row start p e =
    let whole : lines_of text ≡ p.before ++ row ∷ lines_of after = p.whole ∙ ap (λ (ls : List (List ℕ)). p.before ++ ls) e in
    omega (arith, prefix-line text p.before row (lines_of after) whole, p.start_is)

-- where the line `history` follows
pub passed-cut : (text rest after row before : List ℕ) (start : ℕ) → Passed text rest start → lines_of rest ≡ row ∷ lines_of after → is_history_line (words_of row) ≡ true → before ≡ take start text
    → (list_any is_history_line (rows_of text) ≡ true) × (rows_of before ≡ script_rows (rows_of text)) × (rows_of after ≡ history_rows (rows_of text))
passed-cut text rest after row before start p e is f =
    let whole : lines_of text ≡ p.before ++ row ∷ lines_of after = p.whole ∙ ap (λ (ls : List (List ℕ)). p.before ++ ls) e in
    let rows = rows-whole text row p.before (lines_of after) whole in
    let first : before ≡ unlines p.before = f ∙ ap (λ (n : ℕ). take n text) p.start_is ∙ prefix-taken text p.before row (lines_of after) whole in (
      ap (list_any is_history_line) rows ∙ some-line (map words_of p.before) (rows_of after) (words_of row) is,
      ap rows_of first ∙ ap (map words_of) (prefix-lines text p.before (row ∷ lines_of after) whole) ∙ sym (ap script_rows rows ∙ script-before (map words_of p.before) (rows_of after) (words_of row) p.none is),
      sym (ap history_rows rows ∙ history-after (map words_of p.before) (rows_of after) (words_of row) p.none is),
    )

-- where no line follows
pub passed-all : (text rest : List ℕ) (start : ℕ) → Passed text rest start → lines_of rest ≡ [] → list_any is_history_line (rows_of text) ≡ false
passed-all text rest start p e =
    ap (list_any is_history_line) (ap (map words_of) (p.whole ∙ ap (λ (ls : List (List ℕ)). p.before ++ ls) e ∙ append-nil p.before)) ∙ p.none

-- what is read is spelled, and what is spelled is read
pub found-spelled : (text : List ℕ) (r : Result Account AccountFault) → Gives seen r (read_text text) → IfOk r (λ a. Spells text (seen a))
found-spelled text (Ok a) h = (spelled-is-read text (seen a)).1 h
found-spelled text (Err e) h = tt

no-fault : {A : Type 0} (o : Option account.Fault) (read : Result A account.Fault) (x : A) → read ≡ Ok x → Fails o read → o ≡ None
no-fault None read x e h = refl
no-fault (Some fault) read x e h = absurd (cc)

ok-is : (x y : account.Account) → ◌≡◌ {A = Result account.Account account.Fault} (Ok x) (Ok y) → x ≡ y
ok-is x y e = cc

pub only-spelled : (text : List ℕ) (r : Result Account AccountFault) → Gives seen r (read_text text) → (a : account.Account) → Spells text a → MatchResult r (λ x. seen x ≡ a) (λ e. fault_of e ≡ None)
only-spelled text (Ok x) h a s = ok-is (seen x) a (sym h ∙ (spelled-is-read text a).0 s)
only-spelled text (Err e) h a s = no-fault (fault_of e) (read_text text) a ((spelled-is-read text a).0 s) h

-- what is written is read again
pub again-read : (text : List ℕ) (r : Result Account AccountFault) → Gives seen r (read_text text) → (s : Scripted) (workers : ℕ) (events : List Event) → IsScript limits s → IsHistory workers events → text ≡ spelling s ++ (codes "history\n" ++ history_text workers events)
    → MatchResult r (λ a. (a.script ≡ s) × (a.history.workers ≡ workers) × (a.history.events ≡ events)) (λ e. fault_of e ≡ None)
again-read text (Ok a) h s workers events is his t =
    let same : seen a ≡ record { script = s; history = written_read workers events } = ok-is (seen a) (record { script = s; history = written_read workers events }) (sym h ∙ (ap read_text t ∙ written-is-read s workers events is his)) in
    (ap (λ (x : account.Account). x.script) same, ap (λ (x : account.Account). x.history.workers) same, ap (λ (x : account.Account). x.history.events) same)
again-read text (Err e) h s workers events is his t = no-fault (fault_of e) (read_text text) (record { script = s; history = written_read workers events }) (ap read_text t ∙ written-is-read s workers events is his) h
