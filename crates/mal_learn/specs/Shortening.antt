-- The shortening at work.
use Rattle.std.specs.Prelude.{ℕ, Bool, false, ◌==◌, nat_lt, ◌||◌, List, [], ◌∷◌, slice_index_or, slice_set, Option, Some, None, if◌then◌else◌}
use Rattle.std.specs.List.{list_all}
use Rattle.mal_base.specs.Literals.{var_of}
use Rattle.mal_base.specs.NumberedClause.{NumberedClause}
use Rattle.mal_base.specs.declared.trail_entry.TrailEntry.{TrailEntry}
use Rattle.mal_learn.specs.Working.{State, lits_of, kept, resolved, passed, uncounted}

-- a shortening at work: the analysis, and by variable whether an entry of level 0 with it is still to come
pub record Shortening : Type 0 where
  pub state : State
  pub base : List Bool

-- each literal's variable is seen, or of level 0
abbrev pub covers : List Bool → List Bool → List ℕ → Bool
covers seen base lits = list_all (λ l. slice_index_or seen (var_of l) false || slice_index_or base (var_of l) false) lits

-- an entry of this level is gone
abbrev pub is_left_out : List NumberedClause → ℕ → List Bool → ℕ → State → ℕ → Bool
is_left_out clauses level base own s r = (own == 0) || (if own == level then nat_lt 0 s.left else covers s.seen base (lits_of clauses r))

abbrev pub by_shorter_reason : List NumberedClause → ℕ → List Bool → TrailEntry → State → Option ℕ → State
by_shorter_reason clauses level base e s None = kept level e s
by_shorter_reason clauses level base e s (Some r) = if is_left_out clauses level base e.level s r then resolved clauses r s else kept level e s

-- an entry, handled
abbrev pub shorter_state : List NumberedClause → ℕ → TrailEntry → List Bool → State → State
shorter_state clauses level e base s = let t = passed e s in if slice_index_or s.seen (var_of e.lit) false then by_shorter_reason clauses level base e (uncounted level e t) e.reason else t

abbrev pub shorter_visited : List NumberedClause → ℕ → TrailEntry → Shortening → Shortening
shorter_visited clauses level e x = record { state = shorter_state clauses level e (slice_set x.base (var_of e.lit) false) x.state; base = slice_set x.base (var_of e.lit) false }

-- entries, latest first
abbrev pub shorter_visited_all : List NumberedClause → ℕ → List TrailEntry → Shortening → Shortening
shorter_visited_all clauses level [] x = x
shorter_visited_all clauses level (e ∷ past) x = shorter_visited_all clauses level past (shorter_visited clauses level e x)
