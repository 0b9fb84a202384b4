-- How an optimum is written.
use Rattle.std.specs.Prelude.{ℕ, List, [], ◌∷◌, ◌++◌, codes, Option, Some, None}
use Rattle.mal_report.specs.Rows.{model_row, proof_rows}
use Rattle.spec_text.specs.Lines.{text_of}
use Rattle.spec_text.specs.Numbers.{decimal_word}
use Rattle.spec_report.specs.Replies.{told_rows}
use Rattle.spec_course.specs.Course.{unknown}
use Rattle.spec_max.specs.Optimum.{Solution, Optimum, Best, NoModel, Unknown}

-- the words of the lines of a solution: its cost, and its model
abbrev pub solution_rows : Solution → List (List (List ℕ))
solution_rows found = (codes "o" ∷ decimal_word found.cost ∷ []) ∷ model_row found.model ∷ []

-- of the best so far, where there is one
abbrev pub best_rows : Option Solution → List (List (List ℕ))
best_rows None = []
best_rows (Some found) = solution_rows found

-- the words of the lines of an optimum: the best solution and the lines of a proof, these lines alone, or that it is
-- unknown, as a reply tells it, and the best so far
abbrev pub optimum_rows : Optimum → List (List (List ℕ))
optimum_rows (Best found lines) = (codes "s" ∷ codes "OPTIMUM" ∷ codes "FOUND" ∷ []) ∷ (solution_rows found ++ proof_rows lines)
optimum_rows (NoModel lines) = (codes "s" ∷ codes "UNSATISFIABLE" ∷ []) ∷ proof_rows lines
optimum_rows (Unknown best cause) = told_rows (unknown cause) ++ best_rows best

-- the text of an optimum
unfoldable pub optimum_text : Optimum → List ℕ
optimum_text optimum = text_of (optimum_rows optimum)
