-- What a checker knows.
use Rattle.std.specs.Prelude.{ℕ, List, Option, All}
use Rattle.std.specs.Option.{option_and_then}
use Rattle.spec_logic.specs.Logic.{Entails}
use Rattle.spec_logic.specs.Derivation.{Holding}
use Rattle.mal_check.specs.Places.{Placed, clause_at, place_in}

-- the original clauses, the clauses that accepted lines added (whether or not they were deleted later), and the places
-- of the ids that are held
pub record Checked : Type 0 where
  pub originals : List (Option (List ℕ))
  pub added : List (Option (List ℕ))
  pub ids : Placed

-- the clauses held
abbrev pub held : Checked → Holding
held c id = option_and_then (clause_at c.originals c.added) (place_in c.ids id)

-- each added clause is entailed by the originals
abbrev pub IsSound : Checked → Type 0
IsSound c = All (Entails c.originals) c.added
