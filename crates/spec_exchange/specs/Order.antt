-- Sorted entries, and the least number under a list of literals.
use Rattle.std.specs.Prelude.{◌≡◌, ℕ, min, Bool, List, [], ◌∷◌, Option, Some, None, if◌then◌else◌}
use Rattle.std.specs.declared.cmp.Ordering.{Ordering}
use Rattle.std.specs.declared.cmp.Ordering.TheVariants.{Less}
use Rattle.std.specs.Ordering.{is_eq, nat_cmp, ordering_then}
use Rattle.mal_base.specs.NumberedClause.{NumberedClause}
use Rattle.spec_exchange.specs.Exchange.{lits_cmp}

-- the order of entries: by their literals, and those with the same literals by their numbers
abbrev pub entry_cmp : NumberedClause → NumberedClause → Ordering
entry_cmp e x = ordering_then (lits_cmp e.lits x.lits) (nat_cmp e.id x.id)

-- whether an entry has the literals of another one
abbrev pub has_same_lits : NumberedClause → NumberedClause → Bool
has_same_lits e x = is_eq (lits_cmp e.lits x.lits)

-- these literals come before those of the first entry, if there is one
abbrev pub IsBefore : List ℕ → List NumberedClause → Type 0
IsBefore lits [] = Unit {0}
IsBefore lits (x ∷ xs) = lits_cmp lits x.lits ≡ Less

-- entries stand in order, no list of literals twice
abbrev pub IsSorted : List NumberedClause → Type 0
IsSorted [] = Unit {0}
IsSorted (x ∷ xs) = IsBefore x.lits xs × IsSorted xs

-- the lesser of two numbers, of which one or both may be missing
abbrev pub least_of : Option ℕ → Option ℕ → Option ℕ
least_of None b = b
least_of (Some a) None = Some a
least_of (Some a) (Some b) = Some (min a b)

-- the number of an entry, where it has these literals
abbrev pub own_id : List ℕ → NumberedClause → Option ℕ
own_id lits e = if is_eq (lits_cmp lits e.lits) then Some e.id else None

-- the least number of the entries with these literals, none where there is no such entry
abbrev pub least_id : List ℕ → List NumberedClause → Option ℕ
least_id lits [] = None
least_id lits (e ∷ es) = least_of (own_id lits e) (least_id lits es)
