-- Marks with what tells which of them count for reductions.
use Rattle.std.specs.Prelude.{◌≡◌, ℕ, ◌+◌, ◌≤◌, Bool, not, ◌&&◌, ◌||◌, ◌==◌, nat_lt, if◌then◌else◌, List, [], ◌∷◌, length, map, filter, find, Option}
use Rattle.std.specs.List.{list_any}
use Rattle.spec_learn.specs.Insertion.{put_by}
use Rattle.spec_activity.specs.Activity.{plus}
use Rattle.spec_guided.specs.State as guided
use Rattle.mal_marks.specs.declared.mark.Mark.{Mark}

-- marks by rising number, and how many more there is room for
pub record Marked : Type 0 where
  pub items : List Mark
  pub room : ℕ

-- the numbers of marks rise strictly, from this one on
abbrev pub MarksRise : ℕ → List Mark → Type 0
MarksRise low [] = Unit {0}
MarksRise low (m ∷ ms) = (low ≤ m.id) × MarksRise (m.id + 1) ms

-- a mark counts for reductions: its clause has three literals or more, and is not kept for good
abbrev pub is_counted : Mark → Bool
is_counted m = m.is_long && not m.is_kept

-- how many of the marks count
abbrev pub counted_in : List Mark → ℕ
counted_in marks = length (filter is_counted marks)

-- numbers rise, those that count are counted, and all of them may be candidates
pub record IsMarked (marks : List Mark) (count len places : ℕ) : Type 0 where
  pub rising : MarksRise 1 marks
  pub counted : count ≡ counted_in marks
  pub room : len ≤ places

-- what a guide has of a mark, and of marks
abbrev pub guide_mark : Mark → guided.Mark
guide_mark m = record { id = m.id; kept = m.is_kept; activity = m.activity }

abbrev pub guide_marks : List Mark → List guided.Mark
guide_marks marks = map guide_mark marks

-- the mark of a number, if there is one
abbrev pub mark_under : ℕ → List Mark → Option Mark
mark_under id marks = find (λ m. m.id == id) marks

-- marks by rising number with one more
abbrev pub with_mark : Mark → List Mark → List Mark
with_mark m marks = put_by (λ a b. nat_lt a.id b.id) m marks

-- a mark stays where these numbers go
abbrev pub stays : List ℕ → Mark → Bool
stays ids m = not (list_any (λ i. i == m.id) ids)

-- a mark after a conflict was resolved with its clause, which gains, and is kept for good where it is worth it
abbrev pub resolved : ℕ → Bool → Mark → Mark
resolved gain is_worth m = record { id = m.id; is_kept = m.is_kept || is_worth; is_long = m.is_long; activity = plus m.activity gain }

-- a mark after a conflict was resolved with the clause of this number
abbrev pub resolved_at : ℕ → ℕ → Bool → Mark → Mark
resolved_at id gain is_worth m = if m.id == id then resolved gain is_worth m else m
