-- Worked examples of searches.
use Rattle.std.specs.Prelude.{◌≡◌, ℕ, true, false, Bool, List, [], ◌∷◌, Some}
use Rattle.mal_base.specs.NumberedClause.{Line}
use Rattle.mal_revision.specs.Posted.{Posted}
use Rattle.spec_report.specs.Replies.{ReplyBody, Model, Proof, AllSpent}
use Rattle.spec_course.specs.Course.{Asked, Leads, Spent}
use Rattle.spec_course.specs.Course.Next.{Asks, Ends}
use Rattle.spec_max.specs.Optimum.{Instance, Solution, Best, NoModel, Unknown, opening, cheaper, step, first}

abbrev pub asked : Posted → ReplyBody → Asked
asked r told = record { revision = r; told = told }

abbrev pub solution : List Bool → ℕ → Solution
solution model cost = record { model = model; cost = cost }

-- the clause 1 2 with the soft literals -1 and -2; no clauses, no variables and no soft literals
abbrev pub one_clause : Instance
one_clause = record { formula = record { variables = 2; clauses = Some (2 ∷ 4 ∷ []) ∷ [] }; softs = 3 ∷ 5 ∷ [] }

abbrev pub nothing : Instance
nothing = record { formula = record { variables = 0; clauses = [] }; softs = [] }

-- a model of the clause and the counter in which 2 alone of both is true, one in which both are, and lines
abbrev pub second : ReplyBody
second = Model (false ∷ true ∷ false ∷ false ∷ true ∷ false ∷ [])

abbrev pub both : ReplyBody
both = Model (true ∷ true ∷ true ∷ false ∷ true ∷ true ∷ [])

abbrev pub lines : List Line
lines = record { id = 7; lits = 10 ∷ []; hints = 3 ∷ 4 ∷ 1 ∷ 2 ∷ [] } ∷ record { id = 8; lits = 10 ∷ []; hints = 7 ∷ [] } ∷ []

-- questions, and what searches come to
pub record HasSearches : Type 0 where
  pub opens : opening one_clause ≡ record { variables = 6; clauses = Some (2 ∷ 4 ∷ []) ∷ Some (3 ∷ 6 ∷ []) ∷ Some (5 ∷ 10 ∷ []) ∷ Some (7 ∷ 10 ∷ []) ∷ Some (9 ∷ 12 ∷ []) ∷ Some (5 ∷ 7 ∷ 12 ∷ []) ∷ []; assumptions = [] }
  pub cheapens : cheaper one_clause 1 ≡ record { variables = 6; clauses = []; assumptions = 11 ∷ [] }
  pub best : Leads (step one_clause) (first one_clause) (asked (opening one_clause) second ∷ asked (cheaper one_clause 1) (Proof (11 ∷ []) lines) ∷ []) (Ends (Best (solution (false ∷ true ∷ []) 1) lines))
  pub falls : Leads (step one_clause) (first one_clause) (asked (opening one_clause) both ∷ asked (cheaper one_clause 2) second ∷ []) (Asks (Some (solution (false ∷ true ∷ []) 1)) (cheaper one_clause 1))
  pub free : Leads (step nothing) (first nothing) (asked (opening nothing) (Model []) ∷ []) (Ends (Best (solution [] 0) []))
  pub spent : Leads (step one_clause) (first one_clause) (asked (opening one_clause) both ∷ asked (cheaper one_clause 2) (AllSpent 4) ∷ []) (Ends (Unknown (Some (solution (true ∷ true ∷ []) 2)) (Spent 4)))
  pub refuted : Leads (step one_clause) (first one_clause) (asked (opening one_clause) (Proof [] []) ∷ []) (Ends (NoModel []))
