use Rattle.std.specs.Prelude.{ℕ, not, ◌==◌, nat_lt, List, [], ◌∷◌, filter, if◌then◌else◌}
use Rattle.std.specs.List.{list_any}
use Rattle.mal_base.specs.NumberedClause.{NumberedClause}

-- clauses by rising number with one more, after those of smaller numbers
abbrev pub with_clause : NumberedClause → List NumberedClause → List NumberedClause
with_clause c [] = c ∷ []
with_clause c (d ∷ ds) = if nat_lt c.id d.id then c ∷ (d ∷ ds) else d ∷ with_clause c ds

-- clauses without those of some numbers
abbrev pub forgetting : List ℕ → List NumberedClause → List NumberedClause
forgetting ids clauses = filter (λ c. not (list_any (λ i. i == c.id) ids)) clauses
