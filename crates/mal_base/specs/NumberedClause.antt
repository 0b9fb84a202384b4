use Rattle.std.specs.Prelude.{ℕ, ◌==◌, List, find, Option, option_map}

-- a clause that is held, under its number
pub record NumberedClause : Type 0 where
  pub id : ℕ
  pub lits : List ℕ

-- a derived clause with the clauses that it follows from by unit propagation, in that order
pub record Line : Type 0 where
  pub id : ℕ
  pub lits : List ℕ
  pub hints : List ℕ

-- the literals of the clause that is held under a number, none where the number is not held
abbrev pub lits_under : ℕ → List NumberedClause → Option (List ℕ)
lits_under id clauses = option_map (λ c. c.lits) (find (λ c. c.id == id) clauses)
