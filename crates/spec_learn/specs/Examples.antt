use Rattle.std.specs.Prelude.{◌≡◌, List, [], ◌∷◌, Some, None}
use Rattle.mal_base.specs.NumberedClause.{NumberedClause}
use Rattle.mal_base.specs.declared.trail_entry.TrailEntry.{TrailEntry}
use Rattle.spec_learn.specs.Analysis.{analysed, core}
use Rattle.spec_learn.specs.Order.{moved_all}

-- a trail, latest first, on which -4 was decided, then -3, which forced -1 and -2 by 1 3 and 2 3, and the clauses
abbrev pub two_levels : List TrailEntry
two_levels = record { lit = 5; reason = Some 3; level = 2 } ∷ record { lit = 3; reason = Some 2; level = 2 } ∷ record { lit = 7; reason = None; level = 2 } ∷ record { lit = 9; reason = None; level = 1 } ∷ []

abbrev pub two_level_clauses : List NumberedClause
two_level_clauses = record { id = 1; lits = 2 ∷ 4 ∷ 8 ∷ [] } ∷ record { id = 2; lits = 2 ∷ 6 ∷ [] } ∷ record { id = 3; lits = 4 ∷ 6 ∷ [] } ∷ []

-- worked examples: a clause of two levels, a core, and the order after moves
pub record HasExamples : Type 0 where
  pub two_levels_learn : analysed two_level_clauses two_levels 1 ≡ record { lits = 6 ∷ 8 ∷ []; hints = 2 ∷ 3 ∷ 1 ∷ []; level = 1 }
  pub core_of_two : core two_level_clauses two_levels 4 ≡ record { lits = 5 ∷ 6 ∷ []; hints = 3 ∷ []; level = 0 }
  pub moves : moved_all (2 ∷ 4 ∷ []) (1 ∷ 2 ∷ 3 ∷ 4 ∷ 5 ∷ []) ≡ 4 ∷ 2 ∷ 1 ∷ 3 ∷ 5 ∷ []
