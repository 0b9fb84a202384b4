use Rattle.std.specs.Prelude.{ℕ, ◌-◌, Bool, not, ◌==◌, List, length, map, slice_get, count_by, find, Option}
use Rattle.std.specs.List.{list_any}
use Rattle.std.specs.Option.{option_map_or}
use Rattle.mal_base.specs.Literals.{var_of, negated}
use Rattle.mal_base.specs.declared.trail_entry.TrailEntry.{TrailEntry}

-- a literal is true where it stands on the trail
abbrev pub is_true : List TrailEntry → ℕ → Bool
is_true trail l = list_any (λ e. e.lit == l) trail

-- a literal is false where its negation stands on the trail
abbrev pub is_false : List TrailEntry → ℕ → Bool
is_false trail l = is_true trail (negated l)

-- a variable has a value where one of its literals stands on the trail
abbrev pub has_value : List TrailEntry → ℕ → Bool
has_value trail v = list_any (λ e. v == var_of e.lit) trail

-- the decision level that the trail has reached
abbrev pub level_of : List TrailEntry → ℕ
level_of trail = option_map_or (λ e. e.level) (slice_get trail (length trail - 1)) 0

-- how many literals of a clause are not false
abbrev pub open_count : List TrailEntry → List ℕ → ℕ
open_count trail lits = count_by (λ l. not (is_false trail l)) lits

-- the first literal of a clause that is not false
abbrev pub left_literal : List TrailEntry → List ℕ → Option ℕ
left_literal trail lits = find (λ l. not (is_false trail l)) lits

-- the variables of the trail
abbrev pub vars_of : List TrailEntry → List ℕ
vars_of trail = map (λ e. var_of e.lit) trail

-- the first assumption by variable that is not true
abbrev pub next_assumption : List TrailEntry → List ℕ → Option ℕ
next_assumption trail assumptions = find (λ a. not (is_true trail a)) assumptions

-- the first variable of the decision order without a value
abbrev pub first_free : List TrailEntry → List ℕ → Option ℕ
first_free trail order = find (λ v. not (has_value trail v)) order
