-- Conflict analysis (first unique implication point) and the final conflict. The trail stands latest first: a `past`
-- has its latest entry in front, and after an entry stands what came before it.
use Rattle.std.specs.Prelude.{ℕ, max, Bool, true, false, ◌==◌, nat_lt, ◌&&◌, ◌||◌, List, [], ◌∷◌, ◌++◌, map, Option, Some, None, if◌then◌else◌}
use Rattle.std.specs.List.{list_all, list_any}
use Rattle.std.specs.Option.{option_map_or}
use Rattle.mal_base.specs.Literals.{var_of, negated}
use Rattle.mal_base.specs.NumberedClause.{NumberedClause, lits_under}
use Rattle.mal_base.specs.declared.trail_entry.TrailEntry.{TrailEntry}
use Rattle.spec_learn.specs.Insertion.{put_by}

-- the level that is reached
abbrev pub top : List TrailEntry → ℕ
top [] = 0
top (e ∷ past) = e.level

abbrev pub has_var : List ℕ → ℕ → Bool
has_var vars v = list_any (λ w. v == w) vars

-- the variables of a list of literals, and of the clause of a number: none where it is not held
abbrev pub vars_in : List ℕ → List ℕ
vars_in lits = map var_of lits

abbrev pub vars_under : List NumberedClause → ℕ → List ℕ
vars_under clauses id = option_map_or vars_in (lits_under id clauses) []

-- how far an analysis has come: the variables of the clauses resolved so far, the entries whose negations stay in the
-- clause, and the reasons used, both the earliest in front
pub record Walk : Type 0 where
  pub seen : List ℕ
  pub kept : List TrailEntry
  pub hints : List ℕ

-- before the first resolution
abbrev pub begun : List ℕ → Walk
begun vars = record { seen = vars; kept = []; hints = [] }

-- an entry's negation stays, or is resolved away with the entry's reason
abbrev pub keeping : TrailEntry → Walk → Walk
keeping e w = record { seen = w.seen; kept = e ∷ w.kept; hints = w.hints }

abbrev pub resolving : List NumberedClause → ℕ → Walk → Walk
resolving clauses r w = record { seen = vars_under clauses r ++ w.seen; kept = w.kept; hints = r ∷ w.hints }

-- what is resolved away: all but decisions, what a clause learned at a level does without, or what its shorter form
-- does without
pub data Aim : Type 0 where
  Final : Aim
  Learned : (level : ℕ) → Aim
  Shortened : (level : ℕ) → (clauses : List NumberedClause) → Aim

-- another literal of the level is left in the clause
abbrev pub is_left : ℕ → List ℕ → List TrailEntry → Bool
is_left level seen past = list_any (λ e. (e.level == level) && has_var seen (var_of e.lit)) past

-- an entry of level 0 has this variable
abbrev pub is_base : List TrailEntry → ℕ → Bool
is_base past v = list_any (λ e. (e.level == 0) && (v == var_of e.lit)) past

-- each of these variables is in the clause as it stands, or has level 0: of the entries not yet passed those in the
-- clause are those seen
abbrev pub are_covered : List ℕ → List TrailEntry → List ℕ → Bool
are_covered seen past vars = list_all (λ v. has_var seen v || is_base past v) vars

-- an entry has a reason, and each literal of it is in the clause or has level 0 (the entry itself is seen)
abbrev pub is_covered : List NumberedClause → TrailEntry → List ℕ → List TrailEntry → Bool
is_covered clauses e seen past = option_map_or (λ r. are_covered seen past (vars_under clauses r)) e.reason false

-- an entry is resolved away where it has level 0, and where it has the current level and is not the last of that level
-- left; for the shorter clause also where it has a level between and its reason brings no further literal in
abbrev pub is_resolved : Aim → TrailEntry → List ℕ → List TrailEntry → Bool
is_resolved Final e seen past = true
is_resolved (Learned level) e seen past = (e.level == 0) || ((e.level == level) && is_left level seen past)
is_resolved (Shortened level clauses) e seen past = (e.level == 0) || (if e.level == level then is_left level seen past else is_covered clauses e seen past)

-- an entry of the clause is resolved away where it is to be and has a reason; else it stays
abbrev pub after_seen : Aim → List NumberedClause → TrailEntry → List TrailEntry → Walk → Walk
after_seen aim clauses e past w = option_map_or (λ r. if is_resolved aim e w.seen past then resolving clauses r w else keeping e w) e.reason (keeping e w)

-- an entry whose variable is not seen is passed over
abbrev pub after_entry : Aim → List NumberedClause → TrailEntry → List TrailEntry → Walk → Walk
after_entry aim clauses e past w = if has_var w.seen (var_of e.lit) then after_seen aim clauses e past w else w

-- the walk over the trail, latest first
abbrev pub walked : Aim → List NumberedClause → List TrailEntry → Walk → Walk
walked aim clauses [] w = w
walked aim clauses (e ∷ past) w = walked aim clauses past (after_entry aim clauses e past w)

-- a literal in its place among literals in order
abbrev pub put : ℕ → List ℕ → List ℕ
put l ms = put_by nat_lt l ms

-- the negations of entries, in order
abbrev pub clause_of : List TrailEntry → List ℕ
clause_of [] = []
clause_of (e ∷ es) = put (negated e.lit) (clause_of es)

-- the greatest level of entries below the current one, 0 for none
abbrev pub jump : ℕ → List TrailEntry → ℕ
jump level [] = 0
jump level (e ∷ es) = max (if e.level == level then 0 else e.level) (jump level es)

-- a derived clause, its hints in the order in which they are used, and the level to jump to
pub record Analysed : Type 0 where
  pub lits : List ℕ
  pub hints : List ℕ
  pub level : ℕ

-- the walk from the clause of a conflict
abbrev pub walk_of : List NumberedClause → List TrailEntry → ℕ → Walk
walk_of clauses past id = walked (Learned (top past)) clauses past (begun (vars_under clauses id))

-- the clause of the first implication point of a conflict; at level 0 all is resolved away, and it is the empty clause
abbrev pub analysed : List NumberedClause → List TrailEntry → ℕ → Analysed
analysed clauses past id = let w = walk_of clauses past id in record { lits = clause_of w.kept; hints = w.hints ++ id ∷ []; level = jump (top past) w.kept }

-- the past from the entry of a literal on
abbrev pub reached : ℕ → List TrailEntry → List TrailEntry
reached l [] = []
reached l (e ∷ past) = if e.lit == l then e ∷ past else reached l past

-- the core clause of a false assumption, from the reason of its negation: its negation stays, and of the others negated
-- decisions
abbrev pub core_by : List NumberedClause → ℕ → List TrailEntry → Option ℕ → Analysed
core_by clauses a past None = record { lits = negated a ∷ []; hints = []; level = 0 }
core_by clauses a past (Some r) = let w = walked Final clauses past (begun (vars_under clauses r)) in record { lits = put (negated a) (clause_of w.kept); hints = w.hints ++ r ∷ []; level = 0 }

abbrev pub core_at : List NumberedClause → ℕ → List TrailEntry → Analysed
core_at clauses a [] = core_by clauses a [] None
core_at clauses a (e ∷ past) = core_by clauses a past e.reason

abbrev pub core : List NumberedClause → List TrailEntry → ℕ → Analysed
core clauses past a = core_at clauses a (reached (negated a) past)
