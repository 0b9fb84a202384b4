-- How what a search for a minimal core comes to is written.
use Rattle.std.specs.Prelude.{ℕ, Bool, List, [], ◌∷◌, ◌++◌, codes}
use Rattle.mal_report.specs.Rows.{model_row}
use Rattle.spec_text.specs.Lines.{text_of}
use Rattle.spec_text.specs.Numbers.{literal_word}
use Rattle.spec_report.specs.Replies.{Model, Proof, told_rows}
use Rattle.spec_course.specs.Course.{unknown}
use Rattle.spec_core.specs.Core.{Narrowed, Minimal, Core, Satisfiable, Unknown}

-- the words of the lines of each literal with its model
abbrev pub witness_rows : List ℕ → List (List Bool) → List (List (List ℕ))
witness_rows [] models = []
witness_rows (l ∷ ls) [] = []
witness_rows (l ∷ ls) (model ∷ models) = (codes "m" ∷ literal_word l ∷ []) ∷ model_row model ∷ witness_rows ls models

-- the words of the lines of a core: what a reply tells of failed assumptions, and then its witnesses
abbrev pub core_rows : Narrowed → List (List (List ℕ))
core_rows c = told_rows (Proof c.core c.lines) ++ witness_rows c.core c.models

-- the words of the lines of what a search comes to, as replies tell it
abbrev pub minimal_rows : Minimal → List (List (List ℕ))
minimal_rows (Core c) = core_rows c
minimal_rows (Satisfiable model) = told_rows (Model model)
minimal_rows (Unknown cause) = told_rows (unknown cause)

-- its text
abbrev pub minimal_text : Minimal → List ℕ
minimal_text m = text_of (minimal_rows m)
