-- Numbers that fit the fields of an image.
use Rattle.std.specs.Prelude.{ℕ, ◌<◌, ◌≤◌, ◌^◌, length, Option, Some, None}
use Rattle.std.specs.List.{AllByRecursion}
use Rattle.mal_base.specs.NumberedClause.{NumberedClause}
use Rattle.mal_base.specs.declared.trail_entry.TrailEntry.{TrailEntry}
use Rattle.mal_base.specs.declared.verdict.Verdict.{Verdict}
use Rattle.mal_base.specs.declared.verdict.Verdict.TheVariants.{Satisfiable, Unsatisfiable}
use Rattle.spec_node.specs.State.{Node}

-- the number of a clause, if there is one, is at least 1 and fits 64 bits
abbrev pub FitsNumber : Option ℕ → Type 0
FitsNumber None = Unit {0}
FitsNumber (Some id) = (1 ≤ id) × (id < 2 ^ 64)

-- so does the number of the goal
abbrev pub FitsGoal : Option Verdict → Type 0
FitsGoal None = Unit {0}
FitsGoal (Some Satisfiable) = Unit {0}
FitsGoal (Some (Unsatisfiable goal)) = (1 ≤ goal) × (goal < 2 ^ 64)

-- the reason and the level of an entry fit
abbrev pub FitsEntry : TrailEntry → Type 0
FitsEntry e = FitsNumber e.reason × (e.level < 2 ^ 32)

-- the number of a clause fits
abbrev pub FitsClause : NumberedClause → Type 0
FitsClause c = c.id < 2 ^ 64

-- the number of the restart, the conflicts since the last dropping, the batches handled and the waiting conflict fit
pub record FitsCounts (n : Node) : Type 0 where
  pub restart_number : n.restart_number < 2 ^ 32
  pub conflicts_since_dropping : n.conflicts_since_dropping < 2 ^ 32
  pub processed : n.processed < 2 ^ 32
  pub conflict : FitsNumber n.conflict

-- the entries of the trail, the clauses and their count fit
pub record FitsLists (n : Node) : Type 0 where
  pub trail : AllByRecursion FitsEntry n.trail
  pub clauses : AllByRecursion FitsClause n.clauses
  pub count : length n.clauses < 2 ^ 32

-- the numbers of a node that have no narrower range in an image fit their fields
pub record Fits (n : Node) : Type 0 where
  pub conflicts_since_restart : n.conflicts_since_restart < 2 ^ 32
  pub counts : FitsCounts n
  pub goal : FitsGoal n.verdict
  pub lists : FitsLists n
