use Rattle.std.specs.Prelude.{◌≡◌, ◌≢◌, ℕ, ◌-◌, ◌≤◌, ◌<◌, true, false, List, length, take, slice_index}
use Rattle.mal_base.specs.NumberedClause.{NumberedClause}
use Rattle.mal_base.specs.declared.trail_entry.TrailEntry.{TrailEntry}
use Rattle.spec_node.specs.Value.{is_true, is_false}
use Rattle.mal_watch.specs.WatchLists.{Has, AreOnce}
use Rattle.mal_watch.specs.Watching.{clause_of, other_key, IsWatching, IsWatchKept}

-- a literal becomes false by the last of the first entries, and no other does; none is true and false
pub record Turns (entries : List TrailEntry) (count lit : ℕ) : Type 0 where
  pub some : 1 ≤ count
  pub within : count ≤ length entries
  pub now : is_false (take count entries) lit ≡ true
  pub fresh : is_false (take (count - 1) entries) lit ≡ false
  pub others : (x : ℕ) → is_false (take count entries) x ≡ true → x ≢ lit → is_false (take (count - 1) entries) x ≡ true
  pub clear : (x : ℕ) → is_true (take count entries) x ≡ true → is_false (take count entries) x ≡ false

-- how far the watches of a literal that has become false were gone over: these are left, which are still its watches,
-- and all others are where they may be under one entry more
pub record Goes (entries : List TrailEntry) (count lit lists : ℕ) (watched : List NumberedClause) (keys left : List ℕ) : Type 0 where
  pub watching : IsWatching lists watched keys
  pub apart : (k : ℕ) → k < length keys → slice_index keys k ≢ other_key keys k
  pub form : (k : ℕ) → AreOnce (clause_of watched k).lits
  pub left_is : (k : ℕ) → Has left k → (k < length keys) × (slice_index keys k ≡ lit)
  pub once : AreOnce left
  pub kept : (n k : ℕ) → n ≤ count - 1 → k < length keys → IsWatchKept (take n entries) watched keys k
  pub done : (k : ℕ) → k < length keys → (Has left k → ⊥) → IsWatchKept (take count entries) watched keys k
