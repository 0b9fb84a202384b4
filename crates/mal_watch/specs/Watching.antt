use Rattle.std.specs.Prelude.{◌≡◌, ◌≢◌, ℕ, ◌+◌, ◌-◌, ◌/◌, ◌%◌, ◌<◌, ◌⊎◌, true, false, ◌==◌, if◌then◌else◌, List, [], ◌∷◌, length, slice_index, slice_index_or}
use Rattle.mal_base.specs.NumberedClause.{NumberedClause}
use Rattle.mal_base.specs.declared.trail_entry.TrailEntry.{TrailEntry}
use Rattle.spec_node.specs.Value.{is_true, is_false}
use Rattle.mal_store.specs.Arena.{no_clause}
use Rattle.mal_watch.specs.WatchLists.{Has}

-- the clause of a watch: clauses have two watches each, in order
abbrev pub clause_of : List NumberedClause → ℕ → NumberedClause
clause_of watched watch = slice_index_or watched (watch / 2) no_clause

-- the other watch of a clause
abbrev pub partner : ℕ → ℕ
partner watch = if watch % 2 == 0 then watch + 1 else watch - 1

-- each clause has two watches, each is of a literal of its clause, and there is a list for each literal
pub record IsWatching (lists : ℕ) (watched : List NumberedClause) (keys : List ℕ) : Type 0 where
  pub paired : length keys ≡ length watched + length watched
  pub own : (k : ℕ) → k < length keys → Has (clause_of watched k).lits (slice_index keys k)
  pub below : (k l : ℕ) → Has (clause_of watched k).lits l → l < lists

-- a literal of a clause other than this one that is not false
pub record IsOther (prefix : List TrailEntry) (other : ℕ) (lits : List ℕ) (r : ℕ) : Type 0 where
  pub there : Has lits r
  pub apart : r ≢ other
  pub free : is_false prefix r ≡ false

-- each literal of a clause is false but this one
abbrev pub AreOthersFalse : List TrailEntry → ℕ → List ℕ → Type 0
AreOthersFalse prefix other lits = (x : ℕ) → Has lits x → x ≢ other → is_false prefix x ≡ true

-- the literal of the other watch of a clause
abbrev pub other_key : List ℕ → ℕ → ℕ
other_key keys watch = slice_index keys (partner watch)

-- watches from the first one on of whose clause the other watched literal is not true
abbrev pub from_open : List TrailEntry → List ℕ → List ℕ → List ℕ
from_open prefix keys [] = []
from_open prefix keys (k ∷ ks) = if is_true prefix (other_key keys k) then from_open prefix keys ks else k ∷ ks

-- beside a literal nothing of a clause is to be watched: it is true, or each other literal is false
abbrev pub IsSettled : List TrailEntry → ℕ → List ℕ → Type 0
IsSettled prefix other lits = AreOthersFalse prefix other lits ⊎ (is_true prefix other ≡ true)

-- where the literal of a watch is false, the other watched one is true, or each other literal of its clause is false
-- but that one
abbrev pub IsWatchKept : List TrailEntry → List NumberedClause → List ℕ → ℕ → Type 0
IsWatchKept prefix watched keys k = is_false prefix (slice_index keys k) ≡ true → IsSettled prefix (other_key keys k) (clause_of watched k).lits
