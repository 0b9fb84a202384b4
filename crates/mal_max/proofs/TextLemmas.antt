-- An optimum is written part by part.
use Rattle.std.proofs.Common.{◌≡◌, ℕ, List, [], ◌∷◌, ◌++◌, codes, ap, ◌∙◌, sym, append_assoc}
use Rattle.std.proofs.lemmas.Grind.{flat_map-append}
use Rattle.mal_base.specs.NumberedClause.{Line}
use Rattle.mal_report.specs.Rows.{proof_rows}
use Rattle.spec_text.specs.Lines.{line_of, text_of}
use Rattle.spec_max.specs.Optimum.{Solution, Optimum, Best, NoModel}
use Rattle.mal_max.specs.Texts.{optimum_rows, solution_rows}

-- a line, and then a text
pub line-put : (old first out : List ℕ) (row : List (List ℕ)) (rows : List (List (List ℕ))) → first ≡ old ++ line_of row → out ≡ first ++ text_of rows → out ≡ old ++ text_of (row ∷ rows)
line-put old first out row rows a b = b ∙ (ap (λ (t : List ℕ). t ++ text_of rows) a ∙ append_assoc old (line_of row) (text_of rows))

-- one text, and then another
pub text-put : (old first out : List ℕ) (rows more : List (List (List ℕ))) → first ≡ old ++ text_of rows → out ≡ first ++ text_of more → out ≡ old ++ text_of (rows ++ more)
text-put old first out rows more a b =
    b ∙ (ap (λ (t : List ℕ). t ++ text_of more) a ∙ (append_assoc old (text_of rows) (text_of more) ∙ ap (λ (t : List ℕ). old ++ t) (sym (flat_map-append line_of rows more))))

pub best-put : (old first second out : List ℕ) (found : Solution) (lines : List Line) (optimum : Optimum) → Best found lines ≡ optimum → first ≡ old ++ line_of (codes "s" ∷ codes "OPTIMUM" ∷ codes "FOUND" ∷ []) → second ≡ first ++ text_of (solution_rows found) → out ≡ second ++ text_of (proof_rows lines) → out ≡ old ++ text_of (optimum_rows optimum)
best-put old first second out found lines optimum is a b c =
    text-put old second out ((codes "s" ∷ codes "OPTIMUM" ∷ codes "FOUND" ∷ []) ∷ solution_rows found) (proof_rows lines) (line-put old first second (codes "s" ∷ codes "OPTIMUM" ∷ codes "FOUND" ∷ []) (solution_rows found) a b) c
    ∙ ap (λ (o : Optimum). old ++ text_of (optimum_rows o)) is

pub none-put : (old first out : List ℕ) (lines : List Line) (optimum : Optimum) → NoModel lines ≡ optimum → first ≡ old ++ line_of (codes "s" ∷ codes "UNSATISFIABLE" ∷ []) → out ≡ first ++ text_of (proof_rows lines) → out ≡ old ++ text_of (optimum_rows optimum)
none-put old first out lines optimum is a b = line-put old first out (codes "s" ∷ codes "UNSATISFIABLE" ∷ []) (proof_rows lines) a b ∙ ap (λ (o : Optimum). old ++ text_of (optimum_rows o)) is
