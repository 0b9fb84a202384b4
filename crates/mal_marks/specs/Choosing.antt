-- The less active half of the marks that may go.
use Rattle.std.specs.Prelude.{ℕ, ◌/◌, Bool, not, ◌&&◌, ◌||◌, ◌==◌, nat_lt, List, [], ◌∷◌, length, take, map, filter}
use Rattle.std.specs.List.{list_any}
use Rattle.std.specs.declared.cmp.Ordering.{Ordering}
use Rattle.std.specs.Ordering.{nat_cmp, ordering_then}
use Rattle.spec_learn.specs.Insertion.{put_by}
use Rattle.mal_marks.specs.declared.mark.Mark.{Mark}
use Rattle.mal_marks.specs.declared.choice.Candidate.{Candidate}
use Rattle.mal_marks.specs.Marked.{is_counted}

-- a mark may go: it counts, and is none of the reasons
abbrev pub may_go : List ℕ → Mark → Bool
may_go reasons m = is_counted m && not (list_any (λ r. r == m.id) reasons)

-- what is compared of a mark
abbrev pub candidate_of : Mark → Candidate
candidate_of m = record { activity = m.activity; id = m.id }

-- by activity, and those that are alike by falling number
abbrev pub candidate_cmp : Candidate → Candidate → Ordering
candidate_cmp a b = ordering_then (nat_cmp a.activity b.activity) (nat_cmp b.id a.id)

-- a less active one goes before a more active one, and of two that are alike the later one
abbrev pub precedes : Candidate → Candidate → Bool
precedes a b = nat_lt a.activity b.activity || ((a.activity == b.activity) && nat_lt b.id a.id)

-- candidates in that order
abbrev pub by_activity : List Candidate → List Candidate
by_activity [] = []
by_activity (c ∷ cs) = put_by precedes c (by_activity cs)

-- the less active half, without the middle one where they are odd in number
abbrev pub less_active_half : List Candidate → List Candidate
less_active_half cs = take (length cs / 2) (by_activity cs)

-- the numbers of the less active half of the marks that may go, where these are reasons
abbrev pub less_active : List ℕ → List Mark → List ℕ
less_active reasons marks = map (λ c. c.id) (less_active_half (map candidate_of (filter (may_go reasons) marks)))
