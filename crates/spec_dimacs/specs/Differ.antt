-- No two formulas are written as one text.
use Rattle.std.specs.Prelude.{◌≡◌, ◌≢◌, ℕ, true, List, [], ◌∷◌, Option, Some, None}
use Rattle.mal_base.specs.Formulas.{Formulated, is_formula}
use Rattle.spec_dimacs.specs.Written.{spelling}

-- two formulas in form with one text are equal
abbrev pub FormulasDiffer : Type 0
FormulasDiffer = (f g : Formulated) → is_formula f ≡ true → is_formula g ≡ true → spelling f ≡ spelling g → f ≡ g

-- a formula of two variables with these clauses
abbrev pub of_two : List (Option (List ℕ)) → Formulated
of_two clauses = record { variables = 2; clauses = clauses }

-- worked examples: a tautology is not the clause of its literals, clauses have their order, and variables that occur in
-- no clause count
pub record HaveOtherTexts : Type 0 where
  pub tautology : spelling (of_two (None ∷ [])) ≢ spelling (of_two (Some (2 ∷ []) ∷ []))
  pub order : spelling (of_two (Some (2 ∷ []) ∷ Some (4 ∷ []) ∷ [])) ≢ spelling (of_two (Some (4 ∷ []) ∷ Some (2 ∷ []) ∷ []))
  pub variables : spelling (of_two []) ≢ spelling (record { variables = 3; clauses = [] })
