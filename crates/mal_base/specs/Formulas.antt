use Rattle.std.specs.Prelude.{ℕ, ◌/◌, Bool, ◌&&◌, nat_le, List, length, sum_by, Option, Some, None}
use Rattle.std.specs.List.{list_all}
use Rattle.mal_base.specs.Limits.{limits}
use Rattle.mal_base.specs.Clauses.{rises}

-- a formula: its variables, and its clauses under the numbers 1, 2, .. (none stands for a tautology)
pub record Formulated : Type 0 where
  pub variables : ℕ
  pub clauses : List (Option (List ℕ))

-- the literals that a clause counts for: a tautology counts none
abbrev pub size_of : Option (List ℕ) → ℕ
size_of None = 0
size_of (Some lits) = length lits

-- the literals of a list of clauses
abbrev pub literals_of : List (Option (List ℕ)) → ℕ
literals_of clauses = sum_by size_of clauses

-- each literal is of a variable from 1 to this one: here it is a number, and code 0 or 1 would be of a variable 0 that
-- no assignment lists
abbrev pub is_within : ℕ → List ℕ → Bool
is_within variables lits = list_all (λ l. nat_le 1 (l / 2) && nat_le (l / 2) variables) lits

-- a clause of these variables; a tautology stands only where there is a variable
abbrev pub is_clause_of : ℕ → Option (List ℕ) → Bool
is_clause_of variables None = nat_le 1 variables
is_clause_of variables (Some lits) = rises lits && is_within variables lits

-- at most 65,536 variables, 2^20 clauses and 2^24 literals
abbrev pub is_within_limits : ℕ → List (Option (List ℕ)) → Bool
is_within_limits variables clauses = (nat_le variables limits.variables && nat_le (length clauses) limits.clauses) && nat_le (literals_of clauses) limits.literals

-- a formula in form: clauses of its variables, within the limits
abbrev pub is_formula : Formulated → Bool
is_formula f = is_within_limits f.variables f.clauses && list_all (is_clause_of f.variables) f.clauses
