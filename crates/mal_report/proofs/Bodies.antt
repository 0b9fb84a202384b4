-- What a reply tells is written line by line.
use Rattle.std.proofs.Common.{◌≡◌, ℕ, Bool, List, [], ◌∷◌, ◌++◌, codes, ap, ◌∙◌, sym, append_assoc, append-nil}
use Rattle.mal_base.specs.NumberedClause.{Line}
use Rattle.spec_text.specs.Lines.{line_of, text_of}
use Rattle.spec_report.specs.Replies.{ReplyBody, Model, Proof, told_rows}
use Rattle.mal_report.specs.Rows.{failed_row, model_row, proof_rows}

-- two lines, and then a text
lines_put : (old first second out : List ℕ) (row next : List (List ℕ)) (rows : List (List (List ℕ))) → first ≡ old ++ line_of row → second ≡ first ++ line_of next → out ≡ second ++ text_of rows → out ≡ old ++ text_of (row ∷ next ∷ rows)
lines_put old first second out row next rows a b c =
    c
    ∙ (ap (λ (t : List ℕ). t ++ text_of rows) (b ∙ ap (λ (t : List ℕ). t ++ line_of next) a)
    ∙ (append_assoc (old ++ line_of row) (line_of next) (text_of rows) ∙ append_assoc old (line_of row) (line_of next ++ text_of rows)))

pub model_told : (old first out : List ℕ) (body : ReplyBody) (model : List Bool) → Model model ≡ body → first ≡ old ++ line_of (codes "s" ∷ codes "SATISFIABLE" ∷ []) → out ≡ first ++ line_of (model_row model) → out ≡ old ++ text_of (told_rows body)
model_told old first out body model is a b = lines_put old first out out (codes "s" ∷ codes "SATISFIABLE" ∷ []) (model_row model) [] a b (sym (append-nil out)) ∙ ap (λ (t : ReplyBody). old ++ text_of (told_rows t)) is

pub proof_told : (old first second out : List ℕ) (body : ReplyBody) (failed : List ℕ) (lines : List Line) → Proof failed lines ≡ body → first ≡ old ++ line_of (codes "s" ∷ codes "UNSATISFIABLE" ∷ []) → second ≡ first ++ line_of (failed_row failed) → out ≡ second ++ text_of (proof_rows lines) → out ≡ old ++ text_of (told_rows body)
proof_told old first second out body failed lines is a b c = lines_put old first second out (codes "s" ∷ codes "UNSATISFIABLE" ∷ []) (failed_row failed) (proof_rows lines) a b c ∙ ap (λ (t : ReplyBody). old ++ text_of (told_rows t)) is
