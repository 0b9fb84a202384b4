use Rattle.std.specs.Prelude.{◌≡◌, ◌≢◌, ℕ, ◌-◌, ◌<◌, ◌≤◌, ◌⊎◌, List, [], length, take, slice_index, slice_index_or}
use Rattle.mal_base.specs.NumberedClause.{NumberedClause}
use Rattle.mal_base.specs.declared.trail_entry.TrailEntry.{TrailEntry}
use Rattle.spec_node.specs.Sound.{NumbersRise}
use Rattle.mal_store.specs.Stored.{Among}
use Rattle.mal_watch.specs.WatchLists.{AreOnce}
use Rattle.mal_store.specs.Arena.{no_clause}
use Rattle.mal_watch.specs.Watching.{other_key, IsWatching, IsWatchKept}

-- clauses have different numbers
abbrev pub AreSingle : List NumberedClause → Type 0
AreSingle watched = (i j : ℕ) → i < length watched → j < length watched → (slice_index_or watched i no_clause).id ≡ (slice_index_or watched j no_clause).id → i ≡ j

-- the clauses are by rising number, and the watched ones are those of two or more literals; each watches two different
-- ones of its literals, and no watch is out of its list; there is room for the numbers of all watched ones; and under
-- each beginning of the handled entries, those before the last batch that counts as handled, a watched literal is false
-- only where the other watched one of its clause is true, or all others are false but that one
pub record Follows (clauses watched : List NumberedClause) (keys out : List ℕ) (lists capacity : ℕ) (entries : List TrailEntry) (processed : ℕ) : Type 0 where
  pub numbers : NumbersRise 0 clauses
  pub held : (c : NumberedClause) → Among c watched → Among c clauses
  pub each : (c : NumberedClause) → Among c clauses → (length c.lits ≤ 1) ⊎ Among c watched
  pub single : AreSingle watched
  pub form : (c : NumberedClause) → Among c watched → AreOnce c.lits
  pub watching : IsWatching lists watched keys
  pub apart : (k : ℕ) → k < length keys → slice_index keys k ≢ other_key keys k
  pub idle : out ≡ []
  pub room : length watched ≤ capacity
  pub kept : (n k : ℕ) → n ≤ processed - 1 → k < length keys → IsWatchKept (take n entries) watched keys k
