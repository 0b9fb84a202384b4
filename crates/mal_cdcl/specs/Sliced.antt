use Rattle.std.specs.Prelude.{◌≡◌, ◌≢◌, ℕ, suc, ◌+◌, ◌-◌, ◌≤◌, ◌<◌, ◌^◌, true, false, List, [], ◌∷◌, ◌++◌, length, Option, Some, None}
use Rattle.mal_base.specs.declared.profile.Reduction.TheVariants.{Never}
use Rattle.mal_base.specs.Profiles.{policy}
use Rattle.mal_base.specs.NumberedClause.{Line}
use Rattle.spec_node.specs.State.{Node}
use Rattle.spec_learn.specs.Analysis.{Analysed}
use Rattle.spec_search.specs.Step.{Case, step, next_line, after_case, line_by}
use Rattle.spec_search.specs.Step.Case.{Contradicts}
use Rattle.spec_search.specs.Slice.{most_numbers, is_over, used_after}
use Rattle.mal_learn.specs.Shown.{Shown}
use Rattle.mal_base.specs.Literals.{var_of}
use Rattle.spec_node.specs.Value.{has_value}
use Rattle.mal_trail.specs.Trailed.{Trailed}
use Rattle.mal_trail.specs.Rooms.{IsLeft, IsRoomFor}
use Rattle.mal_cdcl.specs.Within.{NodeWithRoom}

-- a node has room for what so many steps more derive, of a slice in which so many literals and hints were derived
pub record HasStepRoom (steps used : ℕ) (n : NodeWithRoom) : Type 0 where
  pub few : used ≤ most_numbers n.state.variables
  pub variables : n.state.variables ≤ n.spare.engine.variables
  pub clauses : steps ≤ n.spare.engine.clauses
  pub literals : most_numbers n.state.variables ≤ n.spare.engine.literals + used
  pub lines : steps ≤ n.spare.lines
  pub line_literals : most_numbers n.state.variables ≤ n.spare.line_literals + used
  pub hints : most_numbers n.state.variables ≤ n.spare.hints + used

-- a node has room for a slice of so many steps: it has no lines, and has room for those of these steps
pub record HasRunRoom (steps : ℕ) (n : NodeWithRoom) : Type 0 where
  pub none : n.lines ≡ []
  pub room : HasStepRoom steps 0 n

-- and for a slice
abbrev pub HasSliceRoom : NodeWithRoom → Type 0
HasSliceRoom n = HasRunRoom 1000 n

-- the counts of a node are low enough for a slice
pub record HasLowCounts (n : Node) : Type 0 where
  pub conflicts_since_restart : n.conflicts_since_restart < 2 ^ 31
  pub restart_number : n.restart_number < 2 ^ 31
  pub conflicts_since_dropping : n.conflicts_since_dropping < 2 ^ 31
  pub serial : n.serial < 2 ^ 56

-- the counts of a node are those of a node that was never run
pub record IsUnrun (n : Node) : Type 0 where
  pub conflicts_since_restart : n.conflicts_since_restart ≡ 0
  pub restart_number : n.restart_number ≡ 1
  pub conflicts_since_dropping : n.conflicts_since_dropping ≡ 0
  pub serial : n.serial ≡ 0

-- the counts of a node are low enough for a step
pub record MayCount (n : Node) : Type 0 where
  pub first : 1 ≤ n.restart_number
  pub conflicts_since_restart : n.conflicts_since_restart < 2 ^ 32 - 1
  pub restart_number : n.restart_number < 2 ^ 32 - 1
  pub conflicts_since_dropping : n.conflicts_since_dropping < 2 ^ 32 - 1
  pub serial : n.serial + 1 < 2 ^ 57

-- a scratch has room for the numbers of the clauses that a node holds and derives in so many steps, where its profile
-- reduces
abbrev pub HasIdRoom : ℕ → Node → Shown → Type 0
HasIdRoom steps n s = (policy n.profile).reduction ≢ Never → length n.clauses + steps ≤ s.ids

-- the lines stay, and no room is lost but for so many clauses and literals
pub record Keeps (clauses literals : ℕ) (before after : NodeWithRoom) : Type 0 where
  pub lines : after.lines ≡ before.lines
  pub spare : after.spare ≡ record before.spare { engine = after.spare.engine }
  pub room : IsLeft clauses literals before.spare.engine after.spare.engine

-- a scratch has what an analysis gives
pub record IsShown (a : Analysed) (s : Shown) : Type 0 where
  pub lits : s.clause ≡ a.lits
  pub hints : s.hints ≡ a.hints
  pub level : s.level ≡ a.level

-- a list of lines with one more, if there is one
abbrev pub and_line : List Line → Option Line → List Line
and_line lines None = lines
and_line lines (Some l) = lines ++ l ∷ []

-- a slice is over, in which so many literals and hints were derived, and the node is as before
pub record IsEnded (used : ℕ) (before after : NodeWithRoom) : Type 0 where
  pub over : is_over used before.state ≡ true
  pub same : after ≡ before

-- a slice is not over; a step was made, after which so many literals and hints were derived
pub record IsStepped (used : ℕ) (before : NodeWithRoom) (now : ℕ) (after : NodeWithRoom) : Type 0 where
  pub on : is_over used before.state ≡ false
  pub state : after.state ≡ step before.state
  pub lines : after.lines ≡ and_line before.lines (next_line before.state)
  pub numbers : now ≡ used_after used (next_line before.state)
  pub room : (k : ℕ) → HasStepRoom (suc k) used before → HasStepRoom k now after

-- a case that derives no line was made
pub record IsSearched (c : Case) (before after : NodeWithRoom) : Type 0 where
  pub state : after.state ≡ after_case c before.state
  pub none : line_by c before.state ≡ None
  pub keeps : Keeps 0 0 before after

-- the case is that this assumption is contradicted, and the node is as before
pub record IsFailing (c : Case) (a : ℕ) (before after : NodeWithRoom) : Type 0 where
  pub failed : c ≡ Contradicts a
  pub same : after ≡ before

-- an engine has room for a clause of these literals
abbrev pub HasClauseRoom : List ℕ → NodeWithRoom → Type 0
HasClauseRoom lits n = IsRoomFor lits n.spare.engine

-- a node has room for a line: its clause in the engine, and the line among the lines
pub record HasLineRoom (l : Line) (n : NodeWithRoom) : Type 0 where
  pub clause : IsRoomFor l.lits n.spare.engine
  pub lines : 1 ≤ n.spare.lines
  pub line_literals : length l.lits ≤ n.spare.line_literals
  pub hints : length l.hints ≤ n.spare.hints

-- a line takes no more room than it needs
pub record IsLineLess (l : Line) (before after : NodeWithRoom) : Type 0 where
  pub engine : IsLeft 1 (length l.lits) before.spare.engine after.spare.engine
  pub lines : after.spare.lines + 1 ≡ before.spare.lines
  pub line_literals : after.spare.line_literals + length l.lits ≡ before.spare.line_literals
  pub hints : after.spare.hints + length l.hints ≡ before.spare.hints

-- a literal may be made true on a trail: its variable has no value, and there is room for it
pub record IsForcible (l : ℕ) (t : Trailed) : Type 0 where
  pub free : has_value t.entries (var_of l) ≡ false
  pub room : var_of l ≤ t.room
