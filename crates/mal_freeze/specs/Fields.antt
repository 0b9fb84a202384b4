-- What stands in the fields of a text of the form of an image.
use Rattle.std.specs.Prelude.{ℕ, Bool, List}
use Rattle.mal_base.specs.NumberedClause.{NumberedClause}
use Rattle.mal_base.specs.declared.trail_entry.TrailEntry.{TrailEntry}

-- the lists of an image, in order or not
pub record Listing : Type 0 where
  pub assumptions : List ℕ
  pub order : List ℕ
  pub phases : List Bool
  pub trail : List TrailEntry
  pub clauses : List NumberedClause
