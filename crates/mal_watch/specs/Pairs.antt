use Rattle.std.specs.Prelude.{◌≡◌, ◌≢◌, ℕ, ◌≤◌, true, nat_lt, List, take}
use Rattle.mal_base.specs.declared.trail_entry.TrailEntry.{TrailEntry}
use Rattle.spec_node.specs.Value.{is_false}
use Rattle.mal_watch.specs.declared.pair.Pair.{Pair}
use Rattle.mal_watch.specs.WatchLists.{Has}

-- under the first entries, so many at most, a literal is false exactly where there are more of them than this number
pub record IsOpenUntil (entries : List TrailEntry) (count lit until : ℕ) : Type 0 where
  pub until_is : (n : ℕ) → n ≤ count → is_false (take n entries) lit ≡ nat_lt until n
  pub bound : until ≤ count

-- where the later literal is false under the first entries, so many at most, the other is too
abbrev pub IsLater : List TrailEntry → ℕ → ℕ → ℕ → Type 0
IsLater entries count later lit = (n : ℕ) → n ≤ count → is_false (take n entries) later ≡ true → is_false (take n entries) lit ≡ true

-- two literals of a clause of which the first stays open longest among those seen, and the second among the others
pub record IsBest (entries : List TrailEntry) (count : ℕ) (lits seen : List ℕ) (pair : Pair) : Type 0 where
  pub first : Has lits pair.first
  pub second : Has lits pair.second
  pub apart : pair.first ≢ pair.second
  pub first_until : IsOpenUntil entries count pair.first pair.first_until
  pub second_until : IsOpenUntil entries count pair.second pair.second_until
  pub order : pair.second_until ≤ pair.first_until
  pub others : (x : ℕ) → Has seen x → x ≢ pair.first → IsLater entries count pair.second x

-- two literals of a clause, of which the second is false no later than the first, and each other no later than the
-- second
pub record ArePicked (entries : List TrailEntry) (count : ℕ) (lits : List ℕ) (first second : ℕ) : Type 0 where
  pub first_in : Has lits first
  pub second_in : Has lits second
  pub apart : first ≢ second
  pub order : IsLater entries count first second
  pub others : (x : ℕ) → Has lits x → x ≢ first → IsLater entries count second x
