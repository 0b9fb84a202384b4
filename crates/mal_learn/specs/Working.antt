use Rattle.std.specs.Prelude.{ℕ, ◌+◌, ◌-◌, ◌^◌, max, min, Bool, true, false, ◌==◌, nat_lt, ◌&&◌, ◌||◌, List, [], ◌∷◌, ◌++◌, slice_index_or, slice_set, Option, Some, None, if◌then◌else◌}
use Rattle.std.specs.Option.{option_map_or}
use Rattle.mal_base.specs.Literals.{var_of, negated}
use Rattle.mal_base.specs.NumberedClause.{NumberedClause, lits_under}
use Rattle.mal_base.specs.declared.trail_entry.TrailEntry.{TrailEntry}

-- an analysis at work: by variable whether it was seen and whether an entry of the current level with it is still to
-- come, how many seen ones are still to come at that level, the literals and hints found, and the level to jump to so
-- far
pub record State : Type 0 where
  pub seen : List Bool
  pub here : List Bool
  pub left : ℕ
  pub lits : List ℕ
  pub hints : List ℕ
  pub level : ℕ

-- a variable is seen, of which an entry of the current level may be to come
abbrev pub counted_more : Bool → ℕ → ℕ
counted_more here left = if here then min (left + 1) (2 ^ 64 - 1) else left

abbrev pub see : ℕ → State → State
see v s = if slice_index_or s.seen v false then s else record s { seen = slice_set s.seen v true; left = counted_more (slice_index_or s.here v false) s.left }

abbrev pub see_all : List ℕ → State → State
see_all [] s = s
see_all (l ∷ ls) s = see_all ls (see (var_of l) s)

-- the literals of the clause of a number, none where it is not held
abbrev pub lits_of : List NumberedClause → ℕ → List ℕ
lits_of clauses id = option_map_or (λ (l : List ℕ). l) (lits_under id clauses) []

-- an entry stays, or its reason's variables are seen
abbrev pub kept : ℕ → TrailEntry → State → State
kept level e s = record s { lits = s.lits ++ negated e.lit ∷ []; level = max (if e.level == level then 0 else e.level) s.level }

abbrev pub resolved : List NumberedClause → ℕ → State → State
resolved clauses r s = see_all (lits_of clauses r) (record s { hints = s.hints ++ r ∷ [] })

abbrev pub by_reason : List NumberedClause → ℕ → TrailEntry → State → Option ℕ → State
by_reason clauses level e s None = kept level e s
by_reason clauses level e s (Some r) = if (e.level == 0) || ((e.level == level) && nat_lt 0 s.left) then resolved clauses r s else kept level e s

-- an entry is no longer to come
abbrev pub passed : TrailEntry → State → State
passed e s = record s { here = slice_set s.here (var_of e.lit) false }

abbrev pub uncounted : ℕ → TrailEntry → State → State
uncounted level e s = record s { left = if e.level == level then s.left - 1 else s.left }

-- an entry, handled
abbrev pub visited : List NumberedClause → ℕ → TrailEntry → State → State
visited clauses level e s = let t = passed e s in if slice_index_or s.seen (var_of e.lit) false then by_reason clauses level e (uncounted level e t) e.reason else t

-- entries, latest first
abbrev pub visited_all : List NumberedClause → ℕ → List TrailEntry → State → State
visited_all clauses level [] s = s
visited_all clauses level (e ∷ past) s = visited_all clauses level past (visited clauses level e s)

-- the entries of a level are to come
abbrev pub here_all : ℕ → List TrailEntry → List Bool → List Bool
here_all level [] flags = flags
here_all level (e ∷ es) flags = here_all level es (if e.level == level then slice_set flags (var_of e.lit) true else flags)
