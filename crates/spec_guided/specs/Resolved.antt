-- What a conflict of a node touches on the way to the first implication point.
use Rattle.std.specs.Prelude.{ℕ, Bool, ◌&&◌, ◌==◌, nat_le, List, ◌∷◌, length, take_while, drop, filter, reverse}
use Rattle.mal_base.specs.declared.trail_entry.TrailEntry.{TrailEntry}
use Rattle.spec_node.specs.State.{Node}
use Rattle.spec_node.specs.Load.{counted}
use Rattle.spec_node.specs.Sound.{level_in}
use Rattle.spec_learn.specs.Analysis.{Walk, top, has_var}
use Rattle.spec_learn.specs.FirstPoint.{way_to}

-- the entries of the current level, the latest first, and those before them
abbrev pub current : List TrailEntry → List TrailEntry
current past = take_while (λ e. e.level == top past) past

abbrev pub earlier : List TrailEntry → List TrailEntry
earlier past = drop (length (current past)) past

-- how far the analysis of a conflict has come when it has gone over the entries of the current level
abbrev pub way : ℕ → Node → Walk
way id n = let past = reverse n.trail in way_to n.clauses (current past) (earlier past) id

-- the clauses resolved with on that way: that of the conflict, and the reasons of literals of the current level
abbrev pub resolved : ℕ → Node → List ℕ
resolved id n = id ∷ (way id n).hints

-- a variable is met where it is in one of them and has a level above 0
abbrev pub is_met : ℕ → Node → ℕ → Bool
is_met id n v = has_var (way id n).seen v && nat_le 1 (level_in n.trail v)

-- the variables that are met
abbrev pub met : ℕ → Node → List ℕ
met id n = filter (is_met id n) (counted 1 n.variables)
