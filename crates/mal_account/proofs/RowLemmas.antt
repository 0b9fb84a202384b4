-- The lines before the line `history`, and those after it.
use Rattle.std.proofs.Common.{◌≡◌, ℕ, Bool, true, false, cond, ◌||◌, List, [], ◌∷◌, ◌++◌, map, codes, refl, ap, ◌∙◌}
use Rattle.std.specs.List.{list_any}
use Rattle.std.proofs.lemmas.Slice.Eq.{bytes_eq-Decides}
use Rattle.std.proofs.lemmas.Bool.{or_parts}
use Rattle.std.proofs.lemmas.List.{map-append}
use Rattle.spec_text.specs.Inputs.{lines_of, words_of}
use Rattle.spec_dimacs.specs.Rows.{rows_of}
use Rattle.mal_account.specs.Accounts.{is_history_line, script_rows, history_rows}

-- the line `history` is that word
pub history-line : (row : List (List ℕ)) → is_history_line row ≡ true → row ≡ codes "history" ∷ []
history-line [] e = absurd (cc)
history-line (first ∷ []) e = ap (λ (w : List ℕ). w ∷ []) ((bytes_eq-Decides first (codes "history")).0 e)
history-line (first ∷ second ∷ others) e = absurd (cc)

-- where the line stands after others
pub some-line : (before after : List (List (List ℕ))) (row : List (List ℕ)) → is_history_line row ≡ true → list_any is_history_line (before ++ row ∷ after) ≡ true
some-line [] after row e = ap (λ (b : Bool). b || list_any is_history_line after) e
some-line (r ∷ before) after row e = by_row (is_history_line r) (some-line before after row e)
  where
    by_row : (b : Bool) → list_any is_history_line (before ++ row ∷ after) ≡ true → (b || list_any is_history_line (before ++ row ∷ after)) ≡ true
    by_row true h = refl
    by_row false h = h

pub script-before : (before after : List (List (List ℕ))) (row : List (List ℕ)) → list_any is_history_line before ≡ false → is_history_line row ≡ true → script_rows (before ++ row ∷ after) ≡ before
script-before [] after row n e = ap (λ (b : Bool). cond b [] (row ∷ script_rows after)) e
script-before (r ∷ before) after row n e =
    let both = or_parts (is_history_line r) (list_any is_history_line before) n in
    ap (λ (b : Bool). cond b [] (r ∷ script_rows (before ++ row ∷ after))) both.0 ∙ ap (λ (rows : List (List (List ℕ))). r ∷ rows) (script-before before after row both.1 e)

pub history-after : (before after : List (List (List ℕ))) (row : List (List ℕ)) → list_any is_history_line before ≡ false → is_history_line row ≡ true → history_rows (before ++ row ∷ after) ≡ after
history-after [] after row n e = ap (λ (b : Bool). cond b after (history_rows after)) e
history-after (r ∷ before) after row n e =
    let both = or_parts (is_history_line r) (list_any is_history_line before) n in
    ap (λ (b : Bool). cond b (before ++ row ∷ after) (history_rows (before ++ row ∷ after))) both.0 ∙ history-after before after row both.1 e

-- the first line `history` among lines
pub record First (lines : List (List ℕ)) : Type 0 where
  pub before : List (List ℕ)
  pub line : List ℕ
  pub after : List (List ℕ)
  pub whole : lines ≡ before ++ line ∷ after
  pub none : list_any is_history_line (map words_of before) ≡ false
  pub is : is_history_line (words_of line) ≡ true

pub first-line : (lines : List (List ℕ)) → list_any is_history_line (map words_of lines) ≡ true → First lines
first-line [] e = absurd (cc)
first-line (line ∷ lines) e = by_line (is_history_line (words_of line)) refl (λ k. first-line lines k) e
  where
    by_line : (b : Bool) → is_history_line (words_of line) ≡ b → (list_any is_history_line (map words_of lines) ≡ true → First lines) → (b || list_any is_history_line (map words_of lines)) ≡ true → First (line ∷ lines)
    by_line true q ih k = record { before = []; line = line; after = lines; whole = refl; none = refl; is = q }
    by_line false q ih k =
        let f : First lines = ih k in
        record {
          before = line ∷ f.before;
          line = f.line;
          after = f.after;
          whole = ap (λ (ls : List (List ℕ)). line ∷ ls) f.whole;
          none = ap (λ (b : Bool). b || list_any is_history_line (map words_of f.before)) q ∙ f.none;
          is = f.is;
        }

-- the words of lines
pub rows-whole : (text line : List ℕ) (before after : List (List ℕ)) → lines_of text ≡ before ++ line ∷ after → rows_of text ≡ map words_of before ++ words_of line ∷ map words_of after
rows-whole text line before after e = ap (map words_of) e ∙ map-append words_of before (line ∷ after)
