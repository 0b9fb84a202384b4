-- The clause that is learned, in its shorter form where the profile minimizes, is that of the first implication point:
-- on its way from the conflict the clause has two literals of the current level or more, each time that another reason
-- is resolved with.
use Rattle.std.specs.Prelude.{◌≡◌, ◌≢◌, ℕ, ◌≤◌, ◌==◌, List, [], ◌∷◌, ◌++◌, map, filter, count_by, Some, None}
use Rattle.mal_base.specs.Literals.{var_of, negated}
use Rattle.mal_base.specs.NumberedClause.{NumberedClause}
use Rattle.mal_base.specs.declared.trail_entry.TrailEntry.{TrailEntry}
use Rattle.spec_learn.specs.Analysis.{Walk, Aim, has_var, top, begun, vars_under, after_entry, walked, walk_of, analysed}
use Rattle.spec_learn.specs.Analysis.Aim.{Learned}

-- the walk over the entries of a trail, latest first, after which these are still to come
abbrev pub walked_over : Aim → List NumberedClause → List TrailEntry → List TrailEntry → Walk → Walk
walked_over aim clauses [] rest w = w
walked_over aim clauses (e ∷ front) rest w = walked_over aim clauses front rest (after_entry aim clauses e (front ++ rest) w)

-- the clause on its way, where these entries are still to come: its literals are the negations of the entries that were
-- kept, and of those to come that were seen
abbrev pub on_way : Walk → List TrailEntry → List TrailEntry
on_way w rest = w.kept ++ filter (λ e. has_var w.seen (var_of e.lit)) rest

-- how many literals of the clause are of a level
abbrev pub count_at : ℕ → List TrailEntry → ℕ
count_at level es = count_by (λ e. e.level == level) es

-- how far the analysis of a conflict has come when it is at an entry after which these are still to come
abbrev pub way_to : List NumberedClause → List TrailEntry → List TrailEntry → ℕ → Walk
way_to clauses front rest id = walked_over (Learned (top (front ++ rest))) clauses front rest (begun (vars_under clauses id))

-- at an entry of the current level, above level 0, the walk resolves with a reason only where two literals of that
-- level or more are in the clause
abbrev pub ResolvesAboveOne : Type 0
ResolvesAboveOne = (clauses : List NumberedClause) (front rest : List TrailEntry) (e : TrailEntry) (id r : ℕ) →
    let past = front ++ e ∷ rest in
    let w = way_to clauses front (e ∷ rest) id in
    top past ≢ 0 → e.level ≡ top past → (after_entry (Learned (top past)) clauses e rest w).hints ≡ r ∷ w.hints → 2 ≤ count_at (top past) (on_way w (e ∷ rest))

-- the way ends with the clause that is learned
abbrev pub WayEnds : Type 0
WayEnds = (clauses : List NumberedClause) (front rest : List TrailEntry) (id : ℕ) →
    walk_of clauses (front ++ rest) id ≡ walked (Learned (top (front ++ rest))) clauses rest (way_to clauses front rest id)

-- clauses 1 2, -2 3 and -2 -3, and the trail, latest first, after -1 was decided
abbrev pub after_not_one : List TrailEntry
after_not_one = record { lit = 6; reason = Some 2; level = 1 } ∷ record { lit = 4; reason = Some 1; level = 1 } ∷ record { lit = 3; reason = None; level = 1 } ∷ []

abbrev pub three_clauses : List NumberedClause
three_clauses = record { id = 1; lits = 2 ∷ 4 ∷ [] } ∷ record { id = 2; lits = 5 ∷ 6 ∷ [] } ∷ record { id = 3; lits = 5 ∷ 7 ∷ [] } ∷ []

-- clauses -1 2, -2 3, -2 4 and -3 -4, and the trail, latest first, after 1 was decided
abbrev pub after_one : List TrailEntry
after_one = record { lit = 8; reason = Some 3; level = 1 } ∷ record { lit = 6; reason = Some 2; level = 1 } ∷ record { lit = 4; reason = Some 1; level = 1 } ∷ record { lit = 2; reason = None; level = 1 } ∷ []

abbrev pub four_clauses : List NumberedClause
four_clauses = record { id = 1; lits = 3 ∷ 4 ∷ [] } ∷ record { id = 2; lits = 5 ∷ 6 ∷ [] } ∷ record { id = 3; lits = 5 ∷ 8 ∷ [] } ∷ record { id = 4; lits = 7 ∷ 9 ∷ [] } ∷ []

-- worked examples in which the first implication point is not the decision: -2 is learned, by the reasons after it
-- alone; the clause of the conflict has two literals of the level, and so has the first resolvent where there is one
-- after it
pub record HasFirstPoints : Type 0 where
  pub not_decision : analysed three_clauses after_not_one 3 ≡ record { lits = 5 ∷ []; hints = 2 ∷ 3 ∷ []; level = 0 }
  pub joined : analysed four_clauses after_one 4 ≡ record { lits = 5 ∷ []; hints = 2 ∷ 3 ∷ 4 ∷ []; level = 0 }
  pub conflict : map (λ e. negated e.lit) (on_way (way_to four_clauses [] after_one 4) after_one) ≡ 9 ∷ 7 ∷ []
