use Rattle.std.specs.Prelude.{Bool, nat_lt, ◌&&◌}
use Rattle.mal_base.specs.Clauses.{rises}
use Rattle.mal_base.specs.NumberedClause.{NumberedClause}

-- a clause that can be held: its number is at least 1, and its literals rise by variable
abbrev pub can_hold : NumberedClause → Bool
can_hold c = nat_lt 0 c.id && rises c.lits
