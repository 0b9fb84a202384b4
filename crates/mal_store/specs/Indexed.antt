use Rattle.std.specs.Prelude.{ℕ, ◌+◌, ◌≤◌, ◌<◌, Bool, not, ◌==◌, nat_lt, if◌then◌else◌, List, [], ◌∷◌, find, Option}
use Rattle.std.specs.List.{list_any}
use Rattle.mal_store.specs.declared.entry.Entry.{Entry}
use Rattle.mal_store.specs.declared.entry.Held.{Held}
use Rattle.mal_store.specs.declared.entry.Held.TheVariants.{Empty, One, Long}

-- an index: the entries by rising number, and how many entries more there is room for
pub record Indexed : Type 0 where
  pub entries : List Entry
  pub room : ℕ

-- the numbers of entries rise strictly, from this one on
abbrev pub EntriesRise : ℕ → List Entry → Type 0
EntriesRise low [] = Unit {0}
EntriesRise low (e ∷ es) = (low ≤ e.id) × EntriesRise (e.id + 1) es

-- and are below this one
abbrev pub AreBelow : ℕ → List Entry → Type 0
AreBelow high [] = Unit {0}
AreBelow high (e ∷ es) = (e.id < high) × AreBelow high es

-- the entries of original clauses and those of derived ones, whose numbers are greater
pub record IsIndex (originals derived : List Entry) : Type 0 where
  pub rising : EntriesRise 1 originals
  pub below : AreBelow 4294967296 originals
  pub behind : EntriesRise 4294967296 derived

-- the entry of a number, if there is one
abbrev pub entry_under : ℕ → List Entry → Option Entry
entry_under id entries = find (λ e. e.id == id) entries

-- entries by rising number with one more, after those of smaller numbers
abbrev pub with_entry : Entry → List Entry → List Entry
with_entry e [] = e ∷ []
with_entry e (d ∷ ds) = if nat_lt e.id d.id then e ∷ (d ∷ ds) else d ∷ with_entry e ds

-- an entry stays where these numbers go
abbrev pub is_kept : List ℕ → Entry → Bool
is_kept ids e = not (list_any (λ i. i == e.id) ids)

-- a long clause's literals at another place
abbrev pub moved : ℕ → Held → Held
moved place Empty = Empty
moved place (One lits) = One lits
moved place (Long was) = Long place

-- an entry where the long clause of this number stands at this place
abbrev pub settled : ℕ → ℕ → Entry → Entry
settled id place e = record { id = e.id; held = if e.id == id then moved place e.held else e.held }
