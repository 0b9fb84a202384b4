-- Marks that are those of clauses held.
use Rattle.std.specs.Prelude.{None, ◌≡◌, ℕ, Bool, true, ◌||◌, ◌==◌, nat_le, if◌then◌else◌, List, length, map, filter}
use Rattle.std.specs.List.{list_any}
use Rattle.mal_base.specs.NumberedClause.{NumberedClause, lits_under}
use Rattle.mal_base.specs.declared.trail_entry.TrailEntry.{TrailEntry}
use Rattle.spec_node.specs.Load.{is_derived}
use Rattle.spec_node.specs.Sound.{NumbersRise}
use Rattle.spec_node.specs.Adding.{with_clause, forgetting}
use Rattle.spec_learn.specs.Dropping.{is_reason}
use Rattle.spec_activity.specs.Activity.{plus}
use Rattle.spec_guided.specs.State as guided
use Rattle.spec_guided.specs.Learning.{long_clause}
use Rattle.spec_guided.specs.Reducing as reducing
use Rattle.mal_marks.specs.declared.mark.Mark.{Mark}
use Rattle.mal_marks.specs.Marked.{guide_mark, guide_marks, mark_under, with_mark, stays, resolved_at, counted_in}
use Rattle.mal_marks.specs.Choosing.{less_active}

-- what a mark tells of its clause whatever happens to it: the number, and whether it has three literals or more
pub record Shape : Type 0 where
  pub id : ℕ
  pub is_long : Bool

abbrev pub shape_of : Mark → Shape
shape_of m = record { id = m.id; is_long = m.is_long }

abbrev pub clause_shape : NumberedClause → Shape
clause_shape c = record { id = c.id; is_long = nat_le long_clause (length c.lits) }

-- marks are those of the derived clauses held, in their order
abbrev pub AreMarksOf : List NumberedClause → List Mark → Type 0
AreMarksOf clauses marks = map shape_of marks ≡ map clause_shape (filter is_derived clauses)

-- they stay so with one more of each, and a guide has the mark too
pub record InsertFollows : Type 0 where
  pub clauses : (m : Mark) (marks : List Mark) (c : NumberedClause) (clauses : List NumberedClause) → shape_of m ≡ clause_shape c → is_derived c ≡ true → AreMarksOf clauses marks → AreMarksOf (with_clause c clauses) (with_mark m marks)
  pub guide : (m : Mark) (marks : List Mark) → guide_marks (with_mark m marks) ≡ guided.with_mark (guide_mark m) (guide_marks marks)

-- and without those of some numbers
pub record ForgetFollows : Type 0 where
  pub clauses : (ids : List ℕ) (marks : List Mark) (clauses : List NumberedClause) → AreMarksOf clauses marks → AreMarksOf (forgetting ids clauses) (filter (stays ids) marks)
  pub guide : (ids : List ℕ) (marks : List Mark) → guide_marks (filter (stays ids) marks) ≡ guided.unmarked ids (guide_marks marks)

-- a mark of a guide that gains, and is kept for good where it is worth it
abbrev pub gained : ℕ → Bool → guided.Mark → guided.Mark
gained gain is_worth m = record { id = m.id; kept = m.kept || is_worth; activity = plus m.activity gain }

-- and after a conflict was resolved with the clause of a number
pub record ResolveFollows : Type 0 where
  pub clauses : (id gain : ℕ) (is_worth : Bool) (marks : List Mark) (clauses : List NumberedClause) → AreMarksOf clauses marks → AreMarksOf clauses (map (resolved_at id gain is_worth) marks)
  pub guide : (id gain : ℕ) (is_worth : Bool) (marks : List Mark) → guide_marks (map (resolved_at id gain is_worth) marks) ≡ map (λ m. if m.id == id then gained gain is_worth m else m) (guide_marks marks)

-- a number under which no clause is held has no mark
abbrev pub FreeIsUnmarked : Type 0
FreeIsUnmarked = (id : ℕ) (clauses : List NumberedClause) (marks : List Mark) → AreMarksOf clauses marks → lits_under id clauses ≡ None → mark_under id marks ≡ None

-- as many marks count as clauses
abbrev pub CountsClauses : Type 0
CountsClauses = (clauses : List NumberedClause) (marks : List Mark) → NumbersRise 1 clauses → AreMarksOf clauses marks → counted_in marks ≡ length (filter (reducing.is_counted (guide_marks marks)) clauses)

-- numbers are those of the reasons on a trail
abbrev pub AreReasonsOn : List TrailEntry → List ℕ → Type 0
AreReasonsOn trail reasons = (c : NumberedClause) → list_any (λ r. r == c.id) reasons ≡ is_reason trail c

-- what is chosen of the marks is what a reduction gives up
abbrev pub ChoosesReduced : Type 0
ChoosesReduced = (s : guided.Guided) (marks : List Mark) (reasons : List ℕ) → NumbersRise 1 s.node.clauses → AreMarksOf s.node.clauses marks → guide_marks marks ≡ s.guide.marks → AreReasonsOn s.node.trail reasons → less_active reasons marks ≡ reducing.to_reduce s
