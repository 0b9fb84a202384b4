-- What holds of unions and prefixes, in the form in which the law functions state it.
use Rattle.std.specs.Prelude.{◌≡◌, ℕ, ◌+◌, ◌<◌, ◌≤◌, List, [], ◌∷◌, ◌++◌, length, map, sum_by, get_or, slice_set}
use Rattle.std.specs.List.{dedup}
use Rattle.std.specs.List.Sorted.{IsPermutation, IsSortedBy}
use Rattle.std.specs.Ordering.{is_lt}
use Rattle.mal_base.specs.NumberedClause.{NumberedClause}
use Rattle.spec_exchange.specs.Exchange.{union, prefix, most_literals, broadcast, entries_of, climbed_root}
use Rattle.spec_exchange.specs.Order.{IsSorted, least_id, entry_cmp, has_same_lits}

-- the literals of entries, counted
abbrev pub literals_in : List NumberedClause → ℕ
literals_in es = sum_by (λ e. length e.lits) es

-- a union is sorted, and each list of literals has the number that is its least among the entries
abbrev pub UnionIsSorted : Type 0
UnionIsSorted = (es : List NumberedClause) → IsSorted (union es)

abbrev pub UnionKeepsTheLeast : Type 0
UnionKeepsTheLeast = (es : List NumberedClause) (lits : List ℕ) → least_id lits (union es) ≡ least_id lits es

-- two sorted lists are equal where each list of literals has the same number in both, or in none
abbrev pub SortedAreDecided : Type 0
SortedAreDecided =
    (xs ys : List NumberedClause) → IsSorted xs → IsSorted ys
    → ((lits : List ℕ) → least_id lits xs ≡ least_id lits ys) → xs ≡ ys

-- entries that are sorted once are their union where of neighbours with the same literals the first alone stays
abbrev pub SortsOnce : Type 0
SortsOnce = (es xs : List NumberedClause) → IsPermutation es xs → IsSortedBy (λ e x. is_lt (entry_cmp e x)) xs → dedup has_same_lits xs ≡ union es

-- it does not matter which entries come first, nor whether some were united before
abbrev pub OrderDoesNotMatter : Type 0
OrderDoesNotMatter = (xs ys : List NumberedClause) → union (xs ++ ys) ≡ union (ys ++ xs)

abbrev pub UnionOfUnions : Type 0
UnionOfUnions = (xs ys : List NumberedClause) → union (union xs ++ ys) ≡ union (xs ++ ys)

-- what is cut off early would be cut off at the end
abbrev pub CutsEarly : Type 0
CutsEarly = (room : ℕ) (xs ys : List NumberedClause) → prefix room (union (prefix room (union xs) ++ ys)) ≡ prefix room (union (xs ++ ys))

-- what is broadcast stays where the last of several buffers is merged into any other one and cut there
abbrev pub MergesUp : Type 0
MergesUp =
    (buffers : List (List NumberedClause)) (place : ℕ) (last : List NumberedClause) → place < length buffers
    → broadcast (entries_of (slice_set buffers place (prefix most_literals (union (get_or buffers place [] ++ last))))) ≡ broadcast (entries_of (buffers ++ last ∷ []))

-- where each solver broadcasts what it exports for itself, the same is broadcast to all
abbrev pub NodeByNode : Type 0
NodeByNode = (exports : List (List NumberedClause)) → broadcast (entries_of (map broadcast exports)) ≡ broadcast (entries_of exports)

-- and so it is where these buffers climb the tree up to its root
abbrev pub ClimbsToTheSame : Type 0
ClimbsToTheSame = (exports : List (List NumberedClause)) → climbed_root exports ≡ broadcast (entries_of exports)

-- it is a prefix that fits, and the entry after it does not fit any more
pub record IsLongestPrefix (room : ℕ) (es : List NumberedClause) : Type 0 where
  pub fits : literals_in (prefix room es) ≤ room
  pub is_prefix : (rest : List NumberedClause) × (es ≡ prefix room es ++ rest) × ((e : NumberedClause) (others : List NumberedClause) → rest ≡ e ∷ others → room < literals_in (prefix room es) + length e.lits)

abbrev pub PrefixIsLongest : Type 0
PrefixIsLongest = (room : ℕ) (es : List NumberedClause) → IsLongestPrefix room es
