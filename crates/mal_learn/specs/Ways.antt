-- The way of a conflict to its first implication point, over the entries of the current level.
use Rattle.std.specs.Prelude.{ℕ, Bool, ◌==◌, List, length, take_while, drop}
use Rattle.mal_base.specs.NumberedClause.{NumberedClause}
use Rattle.mal_base.specs.declared.trail_entry.TrailEntry.{TrailEntry}
use Rattle.spec_learn.specs.Analysis.{Walk, top}
use Rattle.spec_learn.specs.FirstPoint.{way_to}

-- the clauses resolved with, by variable whether it was seen, and the bound below which there is room for each
-- variable, 0 before there is any
pub record Way : Type 0 where
  pub resolved : List ℕ
  pub seen : List Bool
  pub room : ℕ

-- the entries of the current level, the latest first, and those before them
abbrev pub current : List TrailEntry → List TrailEntry
current past = take_while (λ e. e.level == top past) past

abbrev pub earlier : List TrailEntry → List TrailEntry
earlier past = drop (length (current past)) past

-- how far the analysis of a conflict has come when it has gone over the entries of the current level
abbrev pub way : List NumberedClause → List TrailEntry → ℕ → Walk
way clauses past id = way_to clauses (current past) (earlier past) id
