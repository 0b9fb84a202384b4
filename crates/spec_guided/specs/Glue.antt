-- The glue of a clause: the number of different levels among its literals.
use Rattle.std.specs.Prelude.{ℕ, ◌==◌, List, [], ◌∷◌, length, map, if◌then◌else◌}
use Rattle.std.specs.List.{list_any}
use Rattle.std.specs.Option.{option_map_or}
use Rattle.mal_base.specs.Literals.{var_of}
use Rattle.mal_base.specs.NumberedClause.{NumberedClause, lits_under}
use Rattle.mal_base.specs.declared.trail_entry.TrailEntry.{TrailEntry}
use Rattle.spec_node.specs.Sound.{level_in}

-- numbers without those that come again
abbrev pub different : List ℕ → List ℕ
different [] = []
different (n ∷ ns) = if list_any (λ m. m == n) ns then different ns else n ∷ different ns

-- the levels of literals on a trail
abbrev pub levels_of : List TrailEntry → List ℕ → List ℕ
levels_of trail lits = map (λ l. level_in trail (var_of l)) lits

-- how many different levels the literals have
abbrev pub glue : List TrailEntry → List ℕ → ℕ
glue trail lits = length (different (levels_of trail lits))

-- the literals of the clause of a number, none where it is not held
abbrev pub lits_of : List NumberedClause → ℕ → List ℕ
lits_of clauses id = option_map_or (λ (lits : List ℕ). lits) (lits_under id clauses) []
