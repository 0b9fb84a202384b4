-- What stays where clauses are given up.
use Rattle.std.specs.Prelude.{ℕ, if◌then◌else◌, List, [], ◌∷◌}
use Rattle.mal_base.specs.NumberedClause.{NumberedClause}
use Rattle.mal_store.specs.Arena.{is_left}

-- of a list with two for each clause, the two of each clause that stays
abbrev pub pairs_left : {X : Type 0} → List ℕ → List NumberedClause → List X → List X
pairs_left ids [] xs = []
pairs_left ids (c ∷ cs) [] = []
pairs_left ids (c ∷ cs) (a ∷ []) = []
pairs_left ids (c ∷ cs) (a ∷ (b ∷ xs)) = if is_left ids c then a ∷ (b ∷ pairs_left ids cs xs) else pairs_left ids cs xs
