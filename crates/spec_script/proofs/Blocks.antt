-- The lines of a block give a formula by the grammar of formulas.
use Rattle.std.proofs.Common.{◌≡◌, ℕ, List, ◌∷◌, codes, Ok, refl, sym, subst}
use Rattle.mal_base.specs.Formulas.{Formulated}
use Rattle.spec_dimacs.specs.Reading.{◌>>=◌, after_rows, ended, opened}
use Rattle.spec_dimacs.specs.Rows.{rows_of}
use Rattle.spec_dimacs.proofs.Behind.{Leads, leads_whole, whole_leads}
use Rattle.spec_dimacs.proofs.Spelled.{read_is_spelled, spelled_is_read}
use Rattle.spec_script.specs.Grammar.{formula_of}
use Rattle.spec_script.specs.Laws.{BlockIsSpelled}
use Rattle.spec_script.proofs.Again.{block-reads}
use Rattle.spec_script.proofs.Inversions.{bind_ok}

-- the lines of a block that gives a formula lead to it
pub block-leads : (header : List (List ℕ)) (body : List (List (List ℕ))) (f : Formulated) → formula_of header body ≡ Ok f → Leads ((codes "p" ∷ header) ∷ body) f
block-leads header body f e =
    let a = bind_ok (opened (codes "p" ∷ header)) (λ b. after_rows body b >>= ended) f e in
    let c = bind_ok (after_rows body a.0) ended f a.2 in
    record { header = codes "p" ∷ header; others = body; first = a.0; halves = refl; opens = a.1; rest = record { behind = c.0; reads = c.1; ends = c.2 } }

pub block-is_spelled : BlockIsSpelled
block-is_spelled text header body f rows = (
  (λ s. block-reads header body f (subst (λ (rs : List (List (List ℕ))). Leads rs f) rows (whole_leads (rows_of text) 0 f (spelled_is_read text f s)))),
  (λ e. read_is_spelled text f (leads_whole (rows_of text) 0 f (subst (λ (rs : List (List (List ℕ))). Leads rs f) (sym rows) (block-leads header body f e)))),
)
