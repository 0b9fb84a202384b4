-- A row of the numbers below its length, each once, with the place of each. The first so many of them are inside.
use Rattle.std.specs.Prelude.{◌≡◌, ◌≢◌, ℕ, ◌<◌, nat_lt, Bool, List, length, map, get_or}

-- what stands at a place of a list
abbrev pub at : List ℕ → ℕ → ℕ
at items i = get_or items i 0

-- the places are those of the items
pub record IsRow (items places : List ℕ) : Type 0 where
  pub same : length items ≡ length places
  pub within : (u : ℕ) → u < length places → at places u < length items
  pub placed : (u : ℕ) → u < length places → at items (at places u) ≡ u
  pub below : (i : ℕ) → i < length items → at items i < length places
  pub listed : (i : ℕ) → i < length items → at places (at items i) ≡ i

-- the second list is the first one with two of its items exchanged
pub record IsSwap (xs ys : List ℕ) (i j : ℕ) : Type 0 where
  pub first : at ys i ≡ at xs j
  pub second : at ys j ≡ at xs i
  pub others : (k : ℕ) → k ≢ i → k ≢ j → at ys k ≡ at xs k

-- which numbers are inside, where the first so many are
abbrev pub inside : ℕ → List ℕ → List Bool
inside count places = map (λ p. nat_lt p count) places

-- two places are both inside, or both outside
pub record IsBeside (i j count : ℕ) : Type 0 where
  pub same : nat_lt i count ≡ nat_lt j count
