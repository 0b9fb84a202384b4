-- What a node may learn: whatever way a clause was found, a lesson asserts, and learning it keeps the node sound.
use Rattle.std.specs.Prelude.{◌≡◌, ℕ, ◌<◌, ◌≤◌, false, All, Contains, List, [], ◌∷◌, ◌++◌}
use Rattle.mal_base.specs.Literals.{var_of}
use Rattle.mal_base.specs.declared.trail_entry.TrailEntry.{TrailEntry}
use Rattle.spec_node.specs.State.{Node}
use Rattle.spec_node.specs.Value.{has_value, level_of}
use Rattle.spec_learn.specs.Analysis.{Analysed, clause_of, jump}

-- no two entries have one variable
abbrev pub HaveOwnVariables : List TrailEntry → Type 0
HaveOwnVariables [] = Unit {0}
HaveOwnVariables (e ∷ es) = (has_value es (var_of e.lit) ≡ false) × HaveOwnVariables es

-- an entry has a level from 1 on below another one
abbrev pub IsBetween : ℕ → TrailEntry → Type 0
IsBetween level e = (1 ≤ e.level) × (e.level < level)

-- a clause is a lesson for a node: it has the negations of entries of its trail, no two of one variable, the last of
-- them of the current level and the others of levels from 1 on below; and the jump is to the greatest level of those
-- others
pub record IsLesson (n : Node) (a : Analysed) : Type 0 where
  pub others : List TrailEntry
  pub point : TrailEntry
  pub literals : a.lits ≡ clause_of (others ++ point ∷ [])
  pub jumps : a.level ≡ jump (level_of n.trail) (others ++ point ∷ [])
  pub current : point.level ≡ level_of n.trail
  pub between : All (IsBetween (level_of n.trail)) others
  pub entries : All (Contains n.trail) (others ++ point ∷ [])
  pub different : HaveOwnVariables (others ++ point ∷ [])
