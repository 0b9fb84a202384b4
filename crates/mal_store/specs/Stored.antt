use Rattle.std.specs.Prelude.{◌≡◌, ℕ, zero, suc, ◌+◌, ◌≤◌, ◌<◌, ◌⊎◌, Bool, nat_lt, nat_le, if◌then◌else◌, List, [], ◌∷◌, ◌++◌, length, map, filter, sum_by, slice_index_or}
use Rattle.mal_base.specs.NumberedClause.{NumberedClause}
use Rattle.spec_node.specs.Sound.{NumbersRise}
use Rattle.mal_store.specs.declared.entry.Entry.{Entry}
use Rattle.mal_store.specs.declared.entry.Held.{Held}
use Rattle.mal_store.specs.declared.entry.Held.TheVariants.{Empty, One, Long}
use Rattle.mal_store.specs.Indexed.{settled}
use Rattle.mal_store.specs.Arena.{no_clause, listed_count}

-- a store: the clauses by rising number, those of two and more literals in the order in which they came, and how many
-- clauses and literals it has room for
pub record Stored : Type 0 where
  pub clauses : List NumberedClause
  pub long : List NumberedClause
  pub clause_room : ℕ
  pub literal_room : ℕ

-- a clause stands among others
abbrev pub Among : NumberedClause → List NumberedClause → Type 0
Among c [] = ⊥
Among c (d ∷ ds) = (c ≡ d) ⊎ Among c ds

-- the literals of a clause: none, one, or those of the long one at a place
abbrev pub lits_held : List NumberedClause → Held → List ℕ
lits_held long Empty = []
lits_held long (One lits) = lits
lits_held long (Long place) = (slice_index_or long place no_clause).lits

-- the clause of an entry
abbrev pub entry_clause : List NumberedClause → Entry → NumberedClause
entry_clause long e = record { id = e.id; lits = lits_held long e.held }

-- the clauses of the entries
abbrev pub held_in : List NumberedClause → List Entry → List NumberedClause
held_in long entries = map (entry_clause long) entries

-- a long clause of this number stands where its entry says
abbrev pub IsPlaced : List NumberedClause → ℕ → Held → Type 0
IsPlaced long id Empty = Unit {0}
IsPlaced long id (One lits) = Unit {0}
IsPlaced long id (Long place) = (place < length long) × ((slice_index_or long place no_clause).id ≡ id)

abbrev pub ArePlaced : List NumberedClause → List Entry → Type 0
ArePlaced long [] = Unit {0}
ArePlaced long (e ∷ es) = IsPlaced long e.id e.held × ArePlaced long es

-- an entry where the first long clauses, so many, stand at their places
abbrev pub settled_in : List NumberedClause → ℕ → Entry → Entry
settled_in long zero e = e
settled_in long (suc n) e = settled (slice_index_or long n no_clause).id n (settled_in long n e)

-- how many literals clauses have
abbrev pub literal_count : List NumberedClause → ℕ
literal_count clauses = sum_by (λ c. length c.lits) clauses

-- a clause has two literals or more
abbrev pub is_long : NumberedClause → Bool
is_long c = nat_lt 1 (length c.lits)

-- what a clause of two literals and more adds
abbrev pub if_long : (NumberedClause → ℕ) → NumberedClause → ℕ
if_long f c = if is_long c then f c else 0

-- the long clauses are those of two and more literals, each once: whatever is summed up over them comes to the same
abbrev pub AreLong : List NumberedClause → List NumberedClause → Type 0
AreLong long clauses = (f : NumberedClause → ℕ) → sum_by f long ≡ sum_by (if_long f) clauses

-- the clauses of at most one literal, and their numbers
abbrev pub is_short : NumberedClause → Bool
is_short c = nat_le (length c.lits) 1

abbrev pub short_clauses : List NumberedClause → List NumberedClause
short_clauses clauses = filter is_short clauses

abbrev pub short_ids : List NumberedClause → List ℕ
short_ids clauses = map (λ c. c.id) (short_clauses clauses)

-- numbers in rising order with one more
abbrev pub with_number : ℕ → List ℕ → List ℕ
with_number id [] = id ∷ []
with_number id (n ∷ ns) = if nat_le id n then id ∷ (n ∷ ns) else n ∷ with_number id ns

-- the numbers of the short clauses with that of one more, if it is short
abbrev pub with_short : NumberedClause → List ℕ → List ℕ
with_short c short = if is_short c then with_number c.id short else short

-- clauses have different numbers, which rise; those of the short ones stand in a list of their own; each long clause
-- stands where its entry says and has an entry; and the room in the list of literals is enough for all literals, so
-- that also those that do not stand in it leave room after when they go
pub record IsStore (long : List NumberedClause) (room : ℕ) (entries : List Entry) (short : List ℕ) : Type 0 where
  pub rising : NumbersRise 0 (held_in long entries)
  pub short_is : short ≡ short_ids (held_in long entries)
  pub placed : ArePlaced long entries
  pub once : AreLong long (held_in long entries)
  pub enough : literal_count (held_in long entries) ≤ listed_count long + room

-- long clauses with one more after them, if it is long
abbrev pub with_long : NumberedClause → List NumberedClause → List NumberedClause
with_long c long = if is_long c then long ++ c ∷ [] else long
