-- The clause that a list of literals makes.
use Rattle.std.specs.Prelude.{◌≡◌, ℕ, true, List, [], ◌∷◌, nat_lt, ◌==◌, if◌then◌else◌, Option, Some, None}
use Rattle.mal_base.specs.Clauses.{rises, IsTautology, HaveSame}

-- a clause has the literals once each, by rising variable; literals that have a variable with both signs make none
abbrev pub IsClauseOf : List ℕ → Option (List ℕ) → Type 0
IsClauseOf lits None = IsTautology lits
IsClauseOf lits (Some clause) = (rises clause ≡ true) × HaveSame lits clause

-- each list of literals makes the clause at its place
abbrev pub AreClausesOf : List (List ℕ) → List (Option (List ℕ)) → Type 0
AreClausesOf [] [] = Unit {0}
AreClausesOf [] (clause ∷ clauses) = ⊥
AreClausesOf (lits ∷ lists) [] = ⊥
AreClausesOf (lits ∷ lists) (clause ∷ clauses) = IsClauseOf lits clause × AreClausesOf lists clauses

-- rising literals with one more among them
abbrev pub with_literal : ℕ → List ℕ → List ℕ
with_literal lit [] = lit ∷ []
with_literal lit (first ∷ rest) = if lit == first then first ∷ rest else if nat_lt lit first then lit ∷ first ∷ rest else first ∷ with_literal lit rest

-- the literals in order, each once
abbrev pub sorted : List ℕ → List ℕ
sorted [] = []
sorted (lit ∷ lits) = with_literal lit (sorted lits)

-- the clause that these literals make, none for a tautology
abbrev pub clause_of : List ℕ → Option (List ℕ)
clause_of lits = if rises (sorted lits) then Some (sorted lits) else None
