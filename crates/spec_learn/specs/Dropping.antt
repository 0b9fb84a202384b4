-- What a dropping takes away: the longer half of the derived clauses that may go.
use Rattle.std.specs.Prelude.{ℕ, ◌/◌, Bool, false, not, ◌&&◌, ◌||◌, ◌==◌, nat_lt, nat_le, List, [], ◌∷◌, length, take, map, filter}
use Rattle.std.specs.List.{list_any}
use Rattle.std.specs.Option.{option_map_or}
use Rattle.mal_base.specs.NumberedClause.{NumberedClause}
use Rattle.mal_base.specs.declared.trail_entry.TrailEntry.{TrailEntry}
use Rattle.spec_node.specs.Load.{is_derived}
use Rattle.spec_learn.specs.Insertion.{put_by}

-- a clause is the reason of an entry
abbrev pub is_reason : List TrailEntry → NumberedClause → Bool
is_reason trail c = list_any (λ e. option_map_or (λ r. r == c.id) e.reason false) trail

-- a clause may go: it is derived, has three literals or more, and is no entry's reason
abbrev pub may_go : List TrailEntry → NumberedClause → Bool
may_go trail c = is_derived c && (nat_le 3 (length c.lits) && not (is_reason trail c))

-- a longer clause goes before a shorter one, and of two of equal length that of the greater number
abbrev pub goes_before : NumberedClause → NumberedClause → Bool
goes_before c d = nat_lt (length d.lits) (length c.lits) || ((length c.lits == length d.lits) && nat_lt d.id c.id)

-- a clause among clauses in that order, at its place
abbrev pub put_by_length : NumberedClause → List NumberedClause → List NumberedClause
put_by_length c ds = put_by goes_before c ds

-- clauses in that order
abbrev pub by_length : List NumberedClause → List NumberedClause
by_length [] = []
by_length (c ∷ cs) = put_by_length c (by_length cs)

-- the longer half of clauses, without the middle one where they are odd in number
abbrev pub longer_half : List NumberedClause → List NumberedClause
longer_half cs = take (length cs / 2) (by_length cs)

-- the numbers of the clauses that go, on this trail
abbrev pub to_drop : List TrailEntry → List NumberedClause → List ℕ
to_drop trail clauses = map (λ c. c.id) (longer_half (filter (may_go trail) clauses))
