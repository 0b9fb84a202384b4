-- The order of a binary heap: no item comes before the one above it.
use Rattle.std.specs.Prelude.{◌≡◌, ◌≢◌, ℕ, ◌+◌, ◌-◌, ◌/◌, ◌<◌, Bool, false, List}
use Rattle.spec_activity.specs.Rank.{is_before}
use Rattle.mal_heap.specs.Rows.{at}

-- the place above one
abbrev pub parent : ℕ → ℕ
parent i = (i - 1) / 2

-- whether the number u, for variable u + 1, comes before w
abbrev pub outranks : ℕ → List ℕ → ℕ → ℕ → Bool
outranks index activities u w = is_before index (at activities u) (u + 1) (at activities w) (w + 1)

-- the item at one place does not come before that at another one
abbrev pub Follows : ℕ → List ℕ → List ℕ → ℕ → ℕ → Type 0
Follows index activities items k i = outranks index activities (at items k) (at items i) ≡ false

-- the first so many items stand as a heap
abbrev pub IsHeap : ℕ → List ℕ → List ℕ → ℕ → Type 0
IsHeap index activities items count = (i : ℕ) → 0 < i → i < count → Follows index activities items i (parent i)

-- the items below a place do not come before the one above it
abbrev pub IsOver : ℕ → List ℕ → List ℕ → ℕ → ℕ → Type 0
IsOver index activities items count place = (k : ℕ) → 0 < place → 0 < k → k < count → parent k ≡ place → Follows index activities items k (parent place)

-- a heap but for the item at one place, which may have to rise
pub record IsHeapUp (index : ℕ) (activities items : List ℕ) (count place : ℕ) : Type 0 where
  pub edges : (i : ℕ) → 0 < i → i < count → i ≢ place → Follows index activities items i (parent i)
  pub over : IsOver index activities items count place

-- a heap but for the item at one place, which may have to sink
pub record IsHeapDown (index : ℕ) (activities items : List ℕ) (count place : ℕ) : Type 0 where
  pub edges : (i : ℕ) → 0 < i → i < count → parent i ≢ place → Follows index activities items i (parent i)
  pub over : IsOver index activities items count place

-- the place of the first item of those below a place
pub record IsChild (index : ℕ) (activities items : List ℕ) (count place child : ℕ) : Type 0 where
  pub within : child < count
  pub below : place < child
  pub above : parent child ≡ place
  pub first : (k : ℕ) → 0 < k → k < count → parent k ≡ place → Follows index activities items k child
