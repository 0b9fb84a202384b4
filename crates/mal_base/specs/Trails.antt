use Rattle.std.specs.Prelude.{ℕ, Bool, ◌==◌, List, find, Option, option_map}
use Rattle.mal_base.specs.Literals.{var_of, has_plus}
use Rattle.mal_base.specs.declared.trail_entry.TrailEntry.{TrailEntry}

-- the value that a trail gives to a variable: the sign of the literal that stands there, none where none does
abbrev pub value_on : List TrailEntry → ℕ → Option Bool
value_on entries var = option_map (λ e. has_plus e.lit) (find (λ e. var == var_of e.lit) entries)
