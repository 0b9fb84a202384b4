-- What a search comes to is written part by part.
use Rattle.std.proofs.Common.{◌≡◌, ℕ, Bool, List, [], ◌∷◌, ◌++◌, length, codes, Result, Ok, Err, inl, inr, ◌⊎◌, ap, ◌∙◌, sym, append_assoc, append-nil, arith}
use Rattle.std.specs.Prelude.{OnOk}
use Rattle.std.proofs.lemmas.Grind.{flat_map-append}
use Rattle.mal_base.specs.NumberedClause.{Line}
use Rattle.mal_report.specs.Rows.{failed_row, model_row, proof_rows}
use Rattle.spec_text.specs.Lines.{line_of, text_of}
use Rattle.spec_report.specs.Replies.{Proof, told_rows}
use Rattle.spec_core.specs.Core.{Minimal, Satisfiable}
use Rattle.mal_core.specs.Texts.{core_rows, minimal_rows, witness_rows}

-- a line, and then a text
line-put : (old first out : List ℕ) (row : List (List ℕ)) (rows : List (List (List ℕ))) → first ≡ old ++ line_of row → out ≡ first ++ text_of rows → out ≡ old ++ text_of (row ∷ rows)
line-put old first out row rows a b = b ∙ (ap (λ (t : List ℕ). t ++ text_of rows) a ∙ append_assoc old (line_of row) (text_of rows))

-- one text, and then another
text-put : (old first out : List ℕ) (rows more : List (List (List ℕ))) → first ≡ old ++ text_of rows → out ≡ first ++ text_of more → out ≡ old ++ text_of (rows ++ more)
text-put old first out rows more a b =
    b ∙ (ap (λ (t : List ℕ). t ++ text_of more) a ∙ (append_assoc old (text_of rows) (text_of more) ∙ ap (λ (t : List ℕ). old ++ t) (sym (flat_map-append line_of rows more))))

-- the lines of a model
pub model-put : {E : Type 0} (result : Result (Unit {0}) E) (old first out : List ℕ) (model : List Bool) (m : Minimal) → Satisfiable model ≡ m → first ≡ old ++ line_of (codes "s" ∷ codes "SATISFIABLE" ∷ []) → OnOk result (out ≡ first ++ line_of (model_row model)) → OnOk result (out ≡ old ++ text_of (minimal_rows m))
model-put (Ok done) old first out model m is a b =
    line-put old first out (codes "s" ∷ codes "SATISFIABLE" ∷ []) (model_row model ∷ []) a (b ∙ ap (λ (t : List ℕ). first ++ t) (sym (append-nil (line_of (model_row model)))))
    ∙ ap (λ (n : Minimal). old ++ text_of (minimal_rows n)) is
model-put (Err e) old first out model m is a b = tt

-- the lines of a core, and those of its witnesses
pub core-put : {E : Type 0} (result : Result (Unit {0}) E) (old first second third out core : List ℕ) (lines : List Line) (models : List (List Bool)) → first ≡ old ++ line_of (codes "s" ∷ codes "UNSATISFIABLE" ∷ []) → second ≡ first ++ line_of (failed_row core) → third ≡ second ++ text_of (proof_rows lines) → OnOk result (out ≡ third ++ text_of (witness_rows core models)) → OnOk result (out ≡ old ++ text_of (core_rows (record { core = core; lines = lines; models = models })))
core-put (Ok done) old first second third out core lines models a b c d =
    text-put old third out (told_rows (Proof core lines)) (witness_rows core models)
    (line-put old first third (codes "s" ∷ codes "UNSATISFIABLE" ∷ []) (failed_row core ∷ proof_rows lines) a (line-put first second third (failed_row core) (proof_rows lines) b c)) d
core-put (Err e) old first second third out core lines models a b c d = tt

-- none is left where either list has ended
pub witnesses-end : {A B : Type 0} (out whole ls : List ℕ) (models : List (List Bool)) → A ⊎ B → (A → length ls ≡ 0) → (B → length models ≡ 0) → out ++ text_of (witness_rows ls models) ≡ whole → out ≡ whole
witnesses-end out whole [] models side a b e = sym (append-nil out) ∙ e
witnesses-end out whole (l ∷ ls) [] side a b e = sym (append-nil out) ∙ e
witnesses-end out whole (l ∷ ls) (model ∷ models) (inl h) a b e = absurd (let none = a h in omega (arith, none))
witnesses-end out whole (l ∷ ls) (model ∷ models) (inr h) a b e = absurd (let none = b h in omega (arith, none))
