use Rattle.std.specs.Prelude.{Bool, List}
use Rattle.std.specs.List.{list_all}
use Rattle.mal_base.specs.Clauses.{rises}
use Rattle.mal_base.specs.NumberedClause.{NumberedClause}

-- the literals of each clause rise by variable
abbrev pub all_rise : List NumberedClause → Bool
all_rise clauses = list_all (λ c. rises c.lits) clauses
