-- The search for an optimum, question by question: a model, then one that costs less, until there is none.
use Rattle.std.specs.Prelude.{ℕ, ◌==◌, Bool, List, [], ◌∷◌, ◌++◌, take, fold, Option, Some, None, if◌then◌else◌}
use Rattle.mal_base.specs.Formulas.{Formulated}
use Rattle.mal_base.specs.NumberedClause.{Line}
use Rattle.mal_revision.specs.Posted.{Posted}
use Rattle.spec_report.specs.Replies.{ReplyBody, Model, Proof, AllSpent, AllStarved}
use Rattle.spec_course.specs.Course.{Next, Asked, Cause, Spent, Starved}
use Rattle.spec_course.specs.Course.Next.{Asks, Ends}
use Rattle.spec_max.specs.Counter.{counter, variables_with}
use Rattle.spec_max.specs.Cost.{cost, cost_below}

-- a formula and its soft literals
pub record Instance : Type 0 where
  pub formula : Formulated
  pub softs : List ℕ

-- the variables and the clauses of formula and counter
abbrev pub variables_in : Instance → ℕ
variables_in w = variables_with w.formula.variables w.softs

abbrev pub clauses_in : Instance → List (Option (List ℕ))
clauses_in w = w.formula.clauses ++ counter w.formula.variables w.softs

-- the literal that says that a model costs less than c
abbrev pub costs_less : Instance → ℕ → ℕ
costs_less w c = cost_below w.formula.variables w.softs c

-- the first question: formula and counter
abbrev pub opening : Instance → Posted
opening w = record { variables = variables_in w; clauses = clauses_in w; assumptions = [] }

-- the question for a model that costs less than c
abbrev pub cheaper : Instance → ℕ → Posted
cheaper w c = record { variables = variables_in w; clauses = []; assumptions = costs_less w c ∷ [] }

-- values of the formula's variables, and what they cost
pub record Solution : Type 0 where
  pub model : List Bool
  pub cost : ℕ

-- an optimum is the best solution with the lines that refute what is cheaper, or the lines that refute formula and
-- counter; unknown is why no more is known than the best so far
pub data Optimum : Type 0 where
  Best : Solution → List Line → Optimum
  NoModel : List Line → Optimum
  Unknown : Option Solution → Cause → Optimum

-- the solution in a model of formula and counter
abbrev pub solution_in : Instance → List Bool → Solution
solution_in w model = record { model = take w.formula.variables model; cost = cost w.softs (take w.formula.variables model) }

-- after a solution: one of cost 0 is the best, and of any other it is asked for less
abbrev pub improved : Instance → Solution → Next (Option Solution) Optimum
improved w found = if found.cost == 0 then Ends (Best found []) else Asks (Some found) (cheaper w found.cost)

-- where there is no more, the best so far is the best
abbrev pub concluded : Option Solution → List Line → Optimum
concluded None lines = NoModel lines
concluded (Some best) lines = Best best lines

-- what follows what is told, with the best solution so far
abbrev pub step : Instance → Option Solution → ReplyBody → Next (Option Solution) Optimum
step w best (Model model) = improved w (solution_in w model)
step w best (Proof failed lines) = Ends (concluded best lines)
step w best (AllSpent n) = Ends (Unknown best (Spent n))
step w best AllStarved = Ends (Unknown best Starved)

-- what comes first
abbrev pub first : Instance → Next (Option Solution) Optimum
first w = Asks None (opening w)

-- the solution in the last model that was told
abbrev pub after_told : Instance → Option Solution → ReplyBody → Option Solution
after_told w best (Model model) = Some (solution_in w model)
after_told w best (Proof failed lines) = best
after_told w best (AllSpent n) = best
after_told w best AllStarved = best

abbrev pub last_solution : Instance → List Asked → Option Solution
last_solution w asked = fold (λ (best : Option Solution) (x : Asked). after_told w best x.told) None asked
