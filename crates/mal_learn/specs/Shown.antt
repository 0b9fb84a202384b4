use Rattle.std.specs.Prelude.{◌≡◌, ℕ, ◌+◌, ◌-◌, ◌≤◌, ◌<◌, List, [], All, length, reverse, slice_index_or}
use Rattle.std.specs.List.Sorted.{IsPermutation, IsSorted}
use Rattle.std.specs.Ordering.{nat_cmp}
use Rattle.mal_base.specs.Limits.{greatest_variable}
use Rattle.mal_base.specs.NumberedClause.{NumberedClause}
use Rattle.mal_base.specs.Literals.{var_of}
use Rattle.mal_base.specs.declared.trail_entry.TrailEntry.{TrailEntry}
use Rattle.spec_node.specs.Sound.{EachAfter, IsPlaced}
use Rattle.spec_learn.specs.Analysis.{Analysed}
use Rattle.mal_learn.specs.Working.{State}

-- a state, and the bound below which there is room for each variable, 0 before there is any
pub record Work : Type 0 where
  pub state : State
  pub room : ℕ

-- an analysis is finished: the literals are put in order and the hints turned round
pub record IsFinished (before now : Work) : Type 0 where
  pub permutation : IsPermutation before.state.lits now.state.lits
  pub sorted : IsSorted nat_cmp now.state.lits
  pub hints : now.state.hints ≡ reverse before.state.hints
  pub level : now.state.level ≡ before.state.level
  pub room : now.room ≡ before.room

-- what an analysis leaves: the clause, its hints, the level to jump to, and the bound below which there is room for
-- each variable, 0 before there is any; and for the numbers of how many clauses there is room, and which were chosen
-- last
pub record Shown : Type 0 where
  pub clause : List ℕ
  pub hints : List ℕ
  pub level : ℕ
  pub room : ℕ
  pub ids : ℕ
  pub chosen : List ℕ

-- there is a flag of each kind for each variable, and room for literals and hints
pub record IsFitted (room seen here lits hints : ℕ) : Type 0 where
  pub small : room ≤ greatest_variable + 1
  pub seen_fits : room ≤ seen
  pub here_fits : room ≤ here
  pub lits_fit : room ≤ lits + 1
  pub hints_fit : room ≤ hints

-- among how many clauses there is room to choose, and the numbers of those that were chosen last
pub record Choice : Type 0 where
  pub ids : ℕ
  pub chosen : List ℕ

-- literals and entries of the variables below a bound
abbrev pub AreWithin : ℕ → List ℕ → Type 0
AreWithin room lits = All (λ l. var_of l < room) lits

abbrev pub ClausesWithin : ℕ → List NumberedClause → Type 0
ClausesWithin room clauses = All (λ c. AreWithin room c.lits) clauses

abbrev pub EntriesWithin : ℕ → List TrailEntry → Type 0
EntriesWithin room entries = All (λ e. var_of e.lit < room) entries

-- there is room, for so many variables at least, for those of the entries of a trail and of clauses
pub record HasRoom (least room : ℕ) (entries : List TrailEntry) (clauses : List NumberedClause) : Type 0 where
  pub fitted : least ≤ room
  pub placed : EachAfter (IsPlaced (room - 1)) [] entries
  pub within : ClausesWithin room clauses

-- there is room to walk over entries: for the variable of each, and for one more literal and hint for each
pub record HasWalkRoom (entries : List TrailEntry) (work : Work) : Type 0 where
  pub within : EntriesWithin work.room entries
  pub lits : length entries + length work.state.lits < work.room
  pub hints : length entries + length work.state.hints ≤ work.room

-- an analysis left what a definition gives, and as much room as there was
pub record HasLeft (analysed : Analysed) (before now : Shown) : Type 0 where
  pub clause : now.clause ≡ analysed.lits
  pub hints : now.hints ≡ analysed.hints
  pub level : now.level ≡ analysed.level
  pub room : now.room ≡ before.room
  pub id_room : now.ids ≡ before.ids

-- the last of some numbers, 0 where there is none
abbrev pub last_of : List ℕ → ℕ
last_of ids = slice_index_or ids (length ids - 1) 0
