-- Where the clauses of a checker lie.
use Rattle.std.specs.Prelude.{◌≡◌, ℕ, ◌<◌, ◌≤◌, ◌+◌, ◌*◌, List, [], length, slice_get, slice_index_or, Option, None, Some}
use Rattle.std.specs.Map.{lookup}
use Rattle.std.specs.BTreeMap.{is_at}
use Rattle.std.specs.Ordering.{nat_cmp}
use Rattle.mal_check.specs.declared.held.Place.{Place}
use Rattle.mal_check.specs.declared.held.Place.TheVariants.{Original, Added}

-- the clause at a place
abbrev pub clause_at : List (Option (List ℕ)) → List (Option (List ℕ)) → Place → Option (Option (List ℕ))
clause_at originals added (Original n) = slice_get originals n
clause_at originals added (Added n) = slice_get added n

-- a place has a clause
abbrev pub IsPlace : List (Option (List ℕ)) → List (Option (List ℕ)) → Place → Type 0
IsPlace originals added (Original n) = n < length originals
IsPlace originals added (Added n) = n < length added

-- the place of an id in a map
abbrev pub place_of : List (ℕ × Place) → ℕ → Option Place
place_of ids id = lookup (is_at (nat_cmp id)) ids

-- places in a list by number, and places in a map
pub record Placed : Type 0 where
  pub dense : List (Option Place)
  pub sparse : List (ℕ × Place)

-- no place
abbrev pub no_places : Placed
no_places = record { dense = []; sparse = [] }

-- this place, and without one the other
abbrev pub first_place : Option Place → Option Place → Option Place
first_place (Some place) other = Some place
first_place None other = other

-- the place of an id: that in the list, and else that in the map
abbrev pub place_in : Placed → ℕ → Option Place
place_in places id = first_place (slice_index_or places.dense id None) (place_of places.sparse id)

-- each id has a place with a clause
abbrev pub HavePlaces : List (Option (List ℕ)) → List (Option (List ℕ)) → Placed → Type 0
HavePlaces originals added ids = (id : ℕ) (place : Place) → place_in ids id ≡ Some place → IsPlace originals added place

-- the list by number is at most twice as long as there are clauses, and a few: whatever ids a proof has, it takes no more
-- room than the clauses
abbrev pub IsShort : List (Option (List ℕ)) → List (Option (List ℕ)) → Placed → Type 0
IsShort originals added ids = length ids.dense ≤ 2 * (length originals + length added) + 64
