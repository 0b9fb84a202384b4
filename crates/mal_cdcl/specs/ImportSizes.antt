use Rattle.std.specs.Prelude.{ℕ, ◌+◌, List, [], ◌∷◌, length}
use Rattle.mal_base.specs.NumberedClause.{NumberedClause}

-- the literals of clauses, counted
abbrev pub lits_in : List NumberedClause → ℕ
lits_in [] = 0
lits_in (c ∷ cs) = length c.lits + lits_in cs

-- the clauses of lists, counted
abbrev pub import_clauses : List (List NumberedClause) → ℕ
import_clauses [] = 0
import_clauses (exported ∷ more) = length exported + import_clauses more

-- their literals
abbrev pub import_literals : List (List NumberedClause) → ℕ
import_literals [] = 0
import_literals (exported ∷ more) = lits_in exported + import_literals more
