-- What holds of counters and costs, in the form in which the law functions state it.
use Rattle.std.specs.Prelude.{◌≡◌, ℕ, ◌*◌, ◌<◌, ◌≤◌, Bool, true, nat_le, List, [], ◌∷◌, ◌++◌, length, take}
use Rattle.std.specs.List.{list_all}
use Rattle.mal_base.specs.Formulas.{Formulated, is_formula, is_within, is_clause_of}
use Rattle.spec_logic.specs.Logic.{value_of, is_true_in, satisfies, IsUnsatisfiable}
use Rattle.spec_logic.specs.Refutation.{ProofLine, IsRefutation}
use Rattle.spec_max.specs.Counter.{counted, counter, variables_with}
use Rattle.spec_max.specs.Cost.{cost, cost_below}

-- the variables of a counter have these values after an assignment: each says how many of the first literals are
-- false, and so the counter is satisfied
pub record Counts (variables : ℕ) (softs : List ℕ) (assignment : List Bool) (more : List Bool) : Type 0 where
  pub long : length more ≡ length softs * length softs
  pub satisfied : satisfies (assignment ++ more) (counter variables softs) ≡ true
  pub said : (i j : ℕ) → 1 ≤ i → i ≤ length softs → 1 ≤ j → j ≤ length softs → value_of (assignment ++ more) (counted variables (length softs) i j) ≡ nat_le j (cost (take i softs) assignment)
  pub below : (c : ℕ) → 1 ≤ c → c ≤ length softs → cost softs assignment < c → is_true_in (assignment ++ more) (cost_below variables softs c) ≡ true

-- each assignment of the variables extends to the counter
abbrev pub CostExtends : Type 0
CostExtends =
    (variables : ℕ) (softs : List ℕ) (assignment : List Bool)
    → is_within variables softs ≡ true → length assignment ≡ variables
    → (more : List Bool) × Counts variables softs assignment more

-- whatever satisfies the counter makes s(i, j) true for each j up to the number of the first i literals that are false
abbrev pub CostIsCounted : Type 0
CostIsCounted =
    (variables : ℕ) (softs : List ℕ) (assignment : List Bool) (i j : ℕ)
    → satisfies assignment (counter variables softs) ≡ true
    → 1 ≤ i → i ≤ length softs → 1 ≤ j → j ≤ cost (take i softs) assignment
    → value_of assignment (counted variables (length softs) i j) ≡ true

-- so what satisfies the counter with -s(n, c) costs less than c
abbrev pub CostIsBelow : Type 0
CostIsBelow =
    (variables : ℕ) (softs : List ℕ) (assignment : List Bool) (c : ℕ)
    → satisfies assignment (counter variables softs) ≡ true
    → 1 ≤ c → is_true_in assignment (cost_below variables softs c) ≡ true → cost softs assignment < c

-- the counter has clauses of its variables
abbrev pub CounterIsInForm : Type 0
CounterIsInForm =
    (variables : ℕ) (softs : List ℕ) → is_within variables softs ≡ true
    → list_all (is_clause_of (variables_with variables softs)) (counter variables softs) ≡ true

-- so are its assumptions literals of them
abbrev pub CostBelowIsWithin : Type 0
CostBelowIsWithin =
    (variables : ℕ) (softs : List ℕ) (c : ℕ) → 1 ≤ c → c ≤ length softs
    → is_within (variables_with variables softs) (cost_below variables softs c ∷ []) ≡ true

-- where lines refute formula and counter under the assumption -s(n, c), nothing that satisfies the formula costs less
-- than c
abbrev pub NothingIsCheaper : Type 0
NothingIsCheaper =
    (f : Formulated) (softs : List ℕ) (c : ℕ) (lines : List ProofLine)
    → is_formula f ≡ true → is_within f.variables softs ≡ true → 1 ≤ c → c ≤ length softs
    → IsRefutation (f.clauses ++ counter f.variables softs) (cost_below f.variables softs c ∷ []) lines
    → (assignment : List Bool) → satisfies assignment f.clauses ≡ true → c ≤ cost softs assignment

-- where lines refute formula and counter without assumptions, nothing satisfies the formula
abbrev pub NothingSatisfies : Type 0
NothingSatisfies =
    (f : Formulated) (softs : List ℕ) (lines : List ProofLine)
    → is_formula f ≡ true → is_within f.variables softs ≡ true
    → IsRefutation (f.clauses ++ counter f.variables softs) [] lines
    → IsUnsatisfiable f.clauses []
