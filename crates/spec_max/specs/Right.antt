-- What is right of an instance and of its optimum.
use Rattle.std.specs.Prelude.{◌≡◌, ◌≤◌, true, Bool, List, [], ◌∷◌, length, Option, Some, None}
use Rattle.mal_base.specs.Limits.{limits}
use Rattle.mal_base.specs.Formulas.{is_formula, is_within, is_within_limits}
use Rattle.mal_base.specs.NumberedClause.{Line}
use Rattle.spec_logic.specs.Logic.{satisfies, IsUnsatisfiable}
use Rattle.spec_logic.specs.Refutation.{IsRefutation}
use Rattle.spec_proof.specs.Log.{proof_of}
use Rattle.spec_max.specs.Cost.{cost}
use Rattle.spec_max.specs.Optimum.{Instance, Solution, Optimum, Best, NoModel, Unknown, variables_in, clauses_in, costs_less}

-- an instance that is served: a formula, at most 128 soft literals of its variables, and with the counter it is within
-- the limits
pub record IsServed (w : Instance) : Type 0 where
  pub formed : is_formula w.formula ≡ true
  pub within : is_within w.formula.variables w.softs ≡ true
  pub few : length w.softs ≤ limits.softs
  pub limited : is_within_limits (variables_in w) (clauses_in w) ≡ true

-- a value for each variable of the formula, which they satisfy, with their cost
pub record IsSolution (w : Instance) (found : Solution) : Type 0 where
  pub whole : length found.model ≡ w.formula.variables
  pub satisfied : satisfies found.model w.formula.clauses ≡ true
  pub costs : found.cost ≡ cost w.softs found.model

-- a solution is the best: lines refute formula and counter under a lower cost, none where it costs nothing; so nothing
-- that satisfies the formula costs less
pub record IsBest (w : Instance) (found : Solution) (lines : List Line) : Type 0 where
  pub solution : IsSolution w found
  pub free : found.cost ≡ 0 → lines ≡ []
  pub refuted : 1 ≤ found.cost → IsRefutation (clauses_in w) (costs_less w found.cost ∷ []) (proof_of lines)
  pub least : (assignment : List Bool) → satisfies assignment w.formula.clauses ≡ true → found.cost ≤ cost w.softs assignment

-- lines refute formula and counter; so nothing satisfies the formula
pub record HasNoModel (w : Instance) (lines : List Line) : Type 0 where
  pub refuted : IsRefutation (clauses_in w) [] (proof_of lines)
  pub unsatisfiable : IsUnsatisfiable w.formula.clauses []

-- the best so far, where there is one, is a solution
abbrev pub IsBestSoFar : Instance → Option Solution → Type 0
IsBestSoFar w None = Unit {0}
IsBestSoFar w (Some found) = IsSolution w found

-- an optimum is right
abbrev pub IsRight : Instance → Optimum → Type 0
IsRight w (Best found lines) = IsBest w found lines
IsRight w (NoModel lines) = HasNoModel w lines
IsRight w (Unknown best cause) = IsBestSoFar w best
