-- A reduction: the less active half of the derived clauses that may go is held no longer. The trail stays.
use Rattle.std.specs.Prelude.{ℕ, ◌+◌, ◌/◌, Bool, not, ◌&&◌, ◌||◌, ◌==◌, nat_lt, nat_le, List, [], ◌∷◌, length, take, map, filter}
use Rattle.mal_base.specs.NumberedClause.{NumberedClause}
use Rattle.spec_node.specs.Load.{is_derived}
use Rattle.spec_node.specs.Adding.{forgetting}
use Rattle.spec_learn.specs.Insertion.{put_by}
use Rattle.spec_learn.specs.Dropping.{is_reason}
use Rattle.spec_guided.specs.State.{Mark, Guided, is_kept, activity_under, unmarked}
use Rattle.spec_guided.specs.Learning.{long_clause}

-- a clause counts for reductions: it is derived, has three literals or more, and is not kept for good
abbrev pub is_counted : List Mark → NumberedClause → Bool
is_counted marks c = is_derived c && (nat_le long_clause (length c.lits) && not (is_kept marks c.id))

-- a reduction is due where as many count as the limit and the length of the trail say
abbrev pub is_reduction_due : Guided → Bool
is_reduction_due s = nat_le (s.guide.pace.limit + length s.node.trail) (length (filter (is_counted s.guide.marks) s.node.clauses))

-- of those that count, all that are no entry's reason may go
abbrev pub may_go : Guided → NumberedClause → Bool
may_go s c = is_counted s.guide.marks c && not (is_reason s.node.trail c)

-- a less active clause goes before a more active one, and of two that are alike the later one
abbrev pub goes_before : List Mark → NumberedClause → NumberedClause → Bool
goes_before marks c d =
    let a = activity_under marks c.id in
    let b = activity_under marks d.id in
    nat_lt a b || ((a == b) && nat_lt d.id c.id)

-- clauses in that order
abbrev pub by_activity : List Mark → List NumberedClause → List NumberedClause
by_activity marks [] = []
by_activity marks (c ∷ cs) = put_by (goes_before marks) c (by_activity marks cs)

-- the less active half of clauses, without the middle one where they are odd in number
abbrev pub less_active_half : List Mark → List NumberedClause → List NumberedClause
less_active_half marks cs = take (length cs / 2) (by_activity marks cs)

-- the numbers of the clauses that go
abbrev pub to_reduce : Guided → List ℕ
to_reduce s = map (λ c. c.id) (less_active_half s.guide.marks (filter (may_go s) s.node.clauses))

-- a guided node after a reduction
abbrev pub reduced : Guided → Guided
reduced s = let ids = to_reduce s in record { node = record s.node { clauses = forgetting ids s.node.clauses }; guide = record s.guide { marks = unmarked ids s.guide.marks } }
