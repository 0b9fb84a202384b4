use Rattle.std.specs.Prelude.{◌≡◌, List, [], ◌∷◌, Some, None}
use Rattle.mal_base.specs.NumberedClause.{NumberedClause}
use Rattle.mal_base.specs.declared.trail_entry.TrailEntry.{TrailEntry}
use Rattle.spec_learn.specs.Analysis.{analysed}
use Rattle.spec_learn.specs.Shorter.{shortened}

-- clauses 1 -2, 1 2 3 4 and 2 3 -4, and the trail, latest first, on which -1 was decided, which forced -2, and then -3,
-- which forced 4
abbrev pub covered_clauses : List NumberedClause
covered_clauses = record { id = 1; lits = 2 ∷ 5 ∷ [] } ∷ record { id = 2; lits = 2 ∷ 4 ∷ 6 ∷ 8 ∷ [] } ∷ record { id = 3; lits = 4 ∷ 6 ∷ 9 ∷ [] } ∷ []

abbrev pub after_two : List TrailEntry
after_two = record { lit = 8; reason = Some 2; level = 2 } ∷ record { lit = 7; reason = None; level = 2 } ∷ record { lit = 5; reason = Some 1; level = 1 } ∷ record { lit = 3; reason = None; level = 1 } ∷ []

-- the same without 1 in the second clause
abbrev pub uncovered_clauses : List NumberedClause
uncovered_clauses = record { id = 1; lits = 2 ∷ 5 ∷ [] } ∷ record { id = 2; lits = 4 ∷ 6 ∷ 8 ∷ [] } ∷ record { id = 3; lits = 4 ∷ 6 ∷ 9 ∷ [] } ∷ []

-- the same with 1 -2 5 for the first clause and with the clause -5, which forced -5 at level 0
abbrev pub base_clauses : List NumberedClause
base_clauses = record { id = 1; lits = 2 ∷ 5 ∷ 10 ∷ [] } ∷ record { id = 2; lits = 2 ∷ 4 ∷ 6 ∷ 8 ∷ [] } ∷ record { id = 3; lits = 4 ∷ 6 ∷ 9 ∷ [] } ∷ record { id = 4; lits = 11 ∷ [] } ∷ []

abbrev pub after_base : List TrailEntry
after_base = record { lit = 8; reason = Some 2; level = 2 } ∷ record { lit = 7; reason = None; level = 2 } ∷ record { lit = 5; reason = Some 1; level = 1 } ∷ record { lit = 3; reason = None; level = 1 } ∷ record { lit = 11; reason = Some 4; level = 0 } ∷ []

-- worked examples: of 1 2 3 the literal 2 goes by 1 -2, and so it does where the reason has a literal of level 0, whose
-- reason is a hint too; 2 3 stays as it is, since it lacks 1
pub record HasShorterExamples : Type 0 where
  pub longer : analysed covered_clauses after_two 3 ≡ record { lits = 2 ∷ 4 ∷ 6 ∷ []; hints = 2 ∷ 3 ∷ []; level = 1 }
  pub shorter : shortened covered_clauses after_two 3 ≡ record { lits = 2 ∷ 6 ∷ []; hints = 1 ∷ 2 ∷ 3 ∷ []; level = 1 }
  pub uncovered : shortened uncovered_clauses after_two 3 ≡ record { lits = 4 ∷ 6 ∷ []; hints = 2 ∷ 3 ∷ []; level = 1 }
  pub by_base : shortened base_clauses after_base 3 ≡ record { lits = 2 ∷ 6 ∷ []; hints = 4 ∷ 1 ∷ 2 ∷ 3 ∷ []; level = 1 }
