use Rattle.std.specs.Prelude.{◌≡◌, ℕ, ◌+◌, ◌≤◌, Bool, true, List, length}
use Rattle.std.specs.List.{list_all}
use Rattle.mal_base.specs.Formulas.{is_within}
use Rattle.mal_base.specs.NumberedClause.{NumberedClause}

-- what an engine has room for: variables up to this one, and so many clauses and literals more
pub record Room : Type 0 where
  pub variables : ℕ
  pub clauses : ℕ
  pub literals : ℕ

-- there is room for the variables up to this one, and for so many clauses and literals
pub record HasRoom (most more_clauses more_literals : ℕ) (room : Room) : Type 0 where
  pub variables : most ≤ room.variables
  pub clauses : more_clauses ≤ room.clauses
  pub literals : more_literals ≤ room.literals

-- there is room for a clause of these literals
pub record IsRoomFor (lits : List ℕ) (room : Room) : Type 0 where
  pub within : is_within room.variables lits ≡ true
  pub clauses : 1 ≤ room.clauses
  pub literals : length lits ≤ room.literals

-- no room is lost but for so many clauses and literals
pub record IsLeft (used_clauses used_literals : ℕ) (before after : Room) : Type 0 where
  pub variables : before.variables ≤ after.variables
  pub clauses : before.clauses ≤ after.clauses + used_clauses
  pub literals : before.literals ≤ after.literals + used_literals

-- each literal of each clause is of a variable from 1 to this one
abbrev pub are_within : ℕ → List NumberedClause → Bool
are_within variables clauses = list_all (λ c. is_within variables c.lits) clauses
