use Rattle.std.specs.Prelude.{◌≡◌, ℕ, ◌≤◌, true, List, []}
use Rattle.mal_base.specs.declared.trail_entry.TrailEntry.{TrailEntry}
use Rattle.mal_trail.specs.Trailed.{Trailed}
use Rattle.mal_freeze.specs.Imaged.{all_follow}

-- a trail of these entries, each of which may stand after those before it, with room for the variables up to the
-- greatest
pub record IsTrailOf (greatest : ℕ) (entries : List TrailEntry) (t : Trailed) : Type 0 where
  pub entries_are : t.entries ≡ entries
  pub follow : all_follow greatest [] entries ≡ true
  pub room : greatest ≤ t.room
