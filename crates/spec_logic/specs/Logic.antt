use Rattle.std.specs.Prelude.{◌≡◌, ℕ, ◌-◌, Bool, true, false, not, ◌&&◌, List, get_or, Option, Some, None, if◌then◌else◌}
use Rattle.std.specs.List.{list_all, list_any}
use Rattle.mal_base.specs.Literals.{var_of, has_plus}

-- an assignment lists a truth value for each variable from 1 on; a variable past its end is false
abbrev pub value_of : List Bool → ℕ → Bool
value_of assignment var = get_or assignment (var - 1) false

-- a literal is true where its variable has its sign
abbrev pub is_true_in : List Bool → ℕ → Bool
is_true_in assignment lit = if has_plus lit then value_of assignment (var_of lit) else not (value_of assignment (var_of lit))

-- a clause is satisfied where one of its literals is true; a tautology, written as none, always is
abbrev pub satisfies_clause : List Bool → Option (List ℕ) → Bool
satisfies_clause assignment None = true
satisfies_clause assignment (Some lits) = list_any (is_true_in assignment) lits

-- a list of clauses is satisfied where every clause is
abbrev pub satisfies : List Bool → List (Option (List ℕ)) → Bool
satisfies assignment clauses = list_all (satisfies_clause assignment) clauses

-- clauses with assumptions are satisfied where every clause is and every assumption is true
abbrev pub satisfies_with : List Bool → List (Option (List ℕ)) → List ℕ → Bool
satisfies_with assignment clauses assumptions = satisfies assignment clauses && list_all (is_true_in assignment) assumptions

-- clauses entail a clause where every assignment that satisfies them satisfies it
abbrev pub Entails : List (Option (List ℕ)) → Option (List ℕ) → Type 0
Entails clauses clause = (assignment : List Bool) → satisfies assignment clauses ≡ true → satisfies_clause assignment clause ≡ true

-- no assignment satisfies the clauses and the assumptions
abbrev pub IsUnsatisfiable : List (Option (List ℕ)) → List ℕ → Type 0
IsUnsatisfiable clauses assumptions = (assignment : List Bool) → satisfies_with assignment clauses assumptions ≡ true → ⊥
