use Rattle.std.specs.Prelude.{ℕ, ◌-◌, ◌==◌, nat_le, List, [], length, filter, find, slice_get}
use Rattle.std.specs.Option.{option_map_or}
use Rattle.mal_base.specs.NumberedClause.{Line}

-- the lines with numbers up to this one
abbrev pub up_to : ℕ → List Line → List Line
up_to most lines = filter (λ l. nat_le l.id most) lines

-- the literals of the line with this number, none where there is no such line
abbrev pub goal_lits : ℕ → List Line → List ℕ
goal_lits goal lines = option_map_or (λ l. l.lits) (find (λ l. l.id == goal) lines) []

-- the literals of the last line, none where there is no line
abbrev pub last_lits : List Line → List ℕ
last_lits lines = option_map_or (λ l. l.lits) (slice_get lines (length lines - 1)) []
