-- Worked examples of searches for minimal cores.
use Rattle.std.specs.Prelude.{ℕ, true, false, Bool, List, [], ◌∷◌, Some}
use Rattle.mal_base.specs.NumberedClause.{Line}
use Rattle.spec_report.specs.Replies.{ReplyBody, Model, Proof, AllStarved}
use Rattle.spec_course.specs.Course.{Asked, Leads, Starved}
use Rattle.spec_course.specs.Course.Next.{Ends}
use Rattle.spec_core.specs.Core.{Instance, Narrowed, Core, Satisfiable, Unknown, opening, step, first}

-- a question under these assumptions after the first, and what is told of it
abbrev pub under : Instance → List ℕ → ReplyBody → Asked
under w assumptions told = record { revision = record { variables = w.formula.variables; clauses = []; assumptions = assumptions }; told = told }

abbrev pub opened : Instance → ReplyBody → Asked
opened w told = record { revision = opening w; told = told }

abbrev pub narrowed : List ℕ → List Line → List (List Bool) → Narrowed
narrowed core lines models = record { core = core; lines = lines; models = models }

-- the clause -1 -2 under 1, 2 and 3; the clauses 1 and -1 without assumptions
abbrev pub one_clause : Instance
one_clause = record { formula = record { variables = 3; clauses = Some (3 ∷ 5 ∷ []) ∷ [] }; assumptions = 2 ∷ 4 ∷ 6 ∷ [] }

abbrev pub contrary : Instance
contrary = record { formula = record { variables = 1; clauses = Some (2 ∷ []) ∷ Some (3 ∷ []) ∷ [] }; assumptions = [] }

abbrev pub one_line : List Line
one_line = record { id = 2; lits = 3 ∷ 5 ∷ []; hints = 1 ∷ [] } ∷ []

abbrev pub empty_line : List Line
empty_line = record { id = 3; lits = []; hints = 1 ∷ 2 ∷ [] } ∷ []

-- models without 1 and without 2
abbrev pub second_alone : List Bool
second_alone = false ∷ true ∷ false ∷ []

abbrev pub first_alone : List Bool
first_alone = true ∷ false ∷ false ∷ []

-- what searches come to: a core of two with its witnesses, an empty one, one that gets smaller, a model, an unknown
-- answer
pub record HasSearches : Type 0 where
  pub two : Leads (step one_clause) (first one_clause) (opened one_clause (Proof (2 ∷ 4 ∷ []) one_line) ∷ under one_clause (4 ∷ []) (Model second_alone) ∷ under one_clause (2 ∷ []) (Model first_alone) ∷ []) (Ends (Core (narrowed (2 ∷ 4 ∷ []) one_line (second_alone ∷ first_alone ∷ []))))
  pub none : Leads (step contrary) (first contrary) (opened contrary (Proof [] empty_line) ∷ []) (Ends (Core (narrowed [] empty_line [])))
  pub smaller : Leads (step one_clause) (first one_clause) (opened one_clause (Proof (2 ∷ 4 ∷ 6 ∷ []) one_line) ∷ under one_clause (4 ∷ 6 ∷ []) (Model second_alone) ∷ under one_clause (2 ∷ 6 ∷ []) (Model first_alone) ∷ under one_clause (2 ∷ 4 ∷ []) (Proof (2 ∷ 4 ∷ []) one_line) ∷ []) (Ends (Core (narrowed (2 ∷ 4 ∷ []) one_line (second_alone ∷ first_alone ∷ []))))
  pub satisfied : Leads (step one_clause) (first one_clause) (opened one_clause (Model second_alone) ∷ []) (Ends (Satisfiable second_alone))
  pub starved : Leads (step one_clause) (first one_clause) (opened one_clause (Proof (2 ∷ 4 ∷ []) one_line) ∷ under one_clause (4 ∷ []) AllStarved ∷ []) (Ends (Unknown Starved))
