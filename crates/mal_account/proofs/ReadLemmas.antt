-- What a text spells is what is read of it.
use Rattle.std.proofs.Common.{◌≡◌, ℕ, Bool, true, false, cond, List, [], ◌∷◌, ◌++◌, map, codes, Result, Ok, Err, refl, sym, ap, ap₂, subst, ◌∙◌}
use Rattle.std.specs.List.{list_any}
use Rattle.spec_text.specs.Inputs.{lines_of, words_of}
use Rattle.spec_dimacs.specs.Rows.{rows_of}
use Rattle.spec_dimacs.specs.Reading.{◌>>=◌}
use Rattle.mal_base.specs.declared.line_fault.LineFault.{LineFault}
use Rattle.mal_base.specs.Limits.{limits}
use Rattle.spec_script.specs.Script.{Scripted}
use Rattle.spec_script.specs.Reading as script
use Rattle.spec_script.proofs.Inversions.{bind_ok, passed, ok_is}
use Rattle.spec_script.proofs.Reading as scripts
use Rattle.mal_history.specs.Reading as history
use Rattle.mal_history.proofs.Rows.{spelled-rows}
use Rattle.mal_account.specs.Accounts.{Account, is_history_line, script_rows, history_rows, in_script, in_history, read_lines, read_text}
use Rattle.mal_account.specs.Accounts.Fault.{NoHistory}
use Rattle.mal_account.specs.Grammar.{Spells}
use Rattle.mal_account.specs.Laws.{SpelledIsRead}
use Rattle.mal_account.proofs.LineLemmas.{unlines, prefix-lines, After, after-of}
use Rattle.mal_account.proofs.RowLemmas.{history-line, some-line, script-before, history-after, First, first-line, rows-whole}

-- the account of these lines
lines-read : (before after : List (List (List ℕ))) (row : List (List ℕ)) (a : Account) → list_any is_history_line before ≡ false → is_history_line row ≡ true → script.read_rows limits before 0 script.unread ≡ Ok a.script → history.read_rows after ≡ Ok a.history
    → read_lines (before ++ row ∷ after) ≡ Ok a
lines-read before after row a none is s h =
    ap₂ (λ (f b : List (List (List ℕ))). in_script (script.read_rows limits f 0 script.unread) >>= λ x. in_history (history.read_rows b) >>= λ y. Ok (record { script = x; history = y })) (script-before before after row none is) (history-after before after row none is)
    ∙ ap (λ (r : Result Scripted (ℕ × LineFault)). in_script r >>= λ x. in_history (history.read_rows after) >>= λ y. Ok (record { script = x; history = y })) s
    ∙ ap (λ (r : Result history.Read (ℕ × history.Fault)). in_history r >>= λ y. Ok (record { script = a.script; history = y })) h

pub rows-read : (text : List ℕ) (before after : List (List (List ℕ))) (row : List (List ℕ)) (a : Account) → rows_of text ≡ before ++ row ∷ after → list_any is_history_line before ≡ false → is_history_line row ≡ true → script.read_rows limits before 0 script.unread ≡ Ok a.script → history.read_rows after ≡ Ok a.history
    → read_text text ≡ Ok a
rows-read text before after row a rows none is s h =
    ap (λ (rs : List (List (List ℕ))). cond (list_any is_history_line rs) (read_lines rs) (Err NoHistory)) rows
    ∙ ap (λ (b : Bool). cond b (read_lines (before ++ row ∷ after)) (Err NoHistory)) (some-line before after row is)
    ∙ lines-read before after row a none is s h

spelled-read : (text : List ℕ) (a : Account) → Spells text a → read_text text ≡ Ok a
spelled-read text a s =
    rows-read text (rows_of s.first) (rows_of s.last) (codes "history" ∷ []) a s.rows s.inside refl (scripts.spelled-read limits s.first a.script s.script) ((spelled-rows (rows_of s.last) a.history).0 s.history)

in_script_ok : {A : Type 0} (r : Result A (ℕ × LineFault)) (x : A) → in_script r ≡ Ok x → r ≡ Ok x
in_script_ok (Ok y) x e = let h : y ≡ x = cc in rw h refl
in_script_ok (Err d) x e = absurd (cc)

in_history_ok : {A : Type 0} (r : Result A (ℕ × history.Fault)) (x : A) → in_history r ≡ Ok x → r ≡ Ok x
in_history_ok (Ok y) x e = let h : y ≡ x = cc in rw h refl
in_history_ok (Err d) x e = absurd (cc)

read-spelled : (text : List ℕ) (a : Account) → read_text text ≡ Ok a → Spells text a
read-spelled text a e =
    let p = passed (list_any is_history_line (rows_of text)) (read_lines (rows_of text)) NoHistory a e in
    let s = bind_ok (in_script (script.read_rows limits (script_rows (rows_of text)) 0 script.unread)) (λ x. in_history (history.read_rows (history_rows (rows_of text))) >>= λ y. Ok (record { script = x; history = y })) a p.1 in
    let h = bind_ok (in_history (history.read_rows (history_rows (rows_of text)))) (λ y. Ok (record { script = s.0; history = y })) a s.2 in
    let f : First (lines_of text) = first-line (lines_of text) p.0 in
    spells f s.0 h.0 (in_script_ok (script.read_rows limits (script_rows (rows_of text)) 0 script.unread) s.0 s.1) (in_history_ok (history.read_rows (history_rows (rows_of text))) h.0 h.1) (ok_is (record { script = s.0; history = h.0 }) a h.2)
  where
    spells : First (lines_of text) → (x : Scripted) (y : history.Read) → script.read_rows limits (script_rows (rows_of text)) 0 script.unread ≡ Ok x → history.read_rows (history_rows (rows_of text)) ≡ Ok y → ◌≡◌ {A = Account} (record { script = x; history = y }) a → Spells text a
    spells f x y s h is =
        let rows = rows-whole text f.line f.before f.after f.whole in
        let back : After f.after = after-of text f.before f.line f.after f.whole in
        let rows_before : rows_of (unlines f.before) ≡ map words_of f.before = ap (map words_of) (prefix-lines text f.before (f.line ∷ f.after) f.whole) in
        let rows_after : rows_of back.rest ≡ map words_of f.after = ap (map words_of) back.lines_are in
        let scripted : script_rows (rows_of text) ≡ rows_of (unlines f.before) = ap script_rows rows ∙ script-before (map words_of f.before) (map words_of f.after) (words_of f.line) f.none f.is ∙ sym rows_before in
        let told : history_rows (rows_of text) ≡ rows_of back.rest = ap history_rows rows ∙ history-after (map words_of f.before) (map words_of f.after) (words_of f.line) f.none f.is ∙ sym rows_after in
        subst (λ (z : Account). Spells text z) is (record {
          first = unlines f.before;
          last = back.rest;
          rows = rows ∙ ap₂ (λ (fs bs : List (List (List ℕ))). fs ++ words_of f.line ∷ bs) (sym rows_before) (sym rows_after) ∙ ap (λ (r : List (List ℕ)). rows_of (unlines f.before) ++ r ∷ rows_of back.rest) (history-line (words_of f.line) f.is);
          inside = ap (list_any is_history_line) rows_before ∙ f.none;
          script = scripts.read-spelled limits (unlines f.before) x (ap (λ (rs : List (List (List ℕ))). script.read_rows limits rs 0 script.unread) (sym scripted) ∙ s);
          history = (spelled-rows (rows_of back.rest) y).1 (ap history.read_rows (sym told) ∙ h);
        })

pub spelled-is-read : SpelledIsRead
spelled-is-read text a = (spelled-read text a, read-spelled text a)
