-- The order of the clauses that may be dropped, over their lengths and numbers alone.
use Rattle.std.specs.Prelude.{ℕ, Bool, ◌&&◌, ◌||◌, ◌==◌, nat_lt, length, false}
use Rattle.std.specs.Option.{option_map_or}
use Rattle.std.specs.declared.cmp.Ordering.{Ordering}
use Rattle.std.specs.Ordering.{nat_cmp, ordering_then}
use Rattle.mal_base.specs.NumberedClause.{NumberedClause}
use Rattle.mal_base.specs.declared.trail_entry.TrailEntry.{TrailEntry}
use Rattle.mal_learn.specs.declared.dropping.Droppable.{Droppable}

-- an entry has the clause of this number as its reason
abbrev pub has_reason : ℕ → TrailEntry → Bool
has_reason id e = option_map_or (λ r. r == id) e.reason false

-- a clause that may be dropped: its length and number
abbrev pub droppable_of : NumberedClause → Droppable
droppable_of c = record { len = length c.lits; id = c.id }

-- by length, then by number
abbrev pub droppable_cmp : Droppable → Droppable → Ordering
droppable_cmp a b = ordering_then (nat_cmp a.len b.len) (nat_cmp a.id b.id)

-- a longer one goes before a shorter one, and of two of equal length that of the greater number
abbrev pub precedes : Droppable → Droppable → Bool
precedes a b = nat_lt b.len a.len || ((a.len == b.len) && nat_lt b.id a.id)
