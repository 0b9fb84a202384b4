-- What contracts see of a heap of variables.
use Rattle.mal_base.specs.Limits.{greatest_variable}
use Rattle.std.specs.Prelude.{◌≡◌, ◌≢◌, ℕ, ◌-◌, ◌≤◌, Bool, true, false, List, length, get_or}
use Rattle.spec_activity.specs.Rank.{precedes}
use Rattle.mal_heap.specs.Rows.{IsRow}
use Rattle.mal_heap.specs.Heaps.{IsHeap}

-- the index of its node, the activities of the variables from 1 on, which of them are inside, and for how many more
-- variables there is room
pub record Heaped : Type 0 where
  pub index : ℕ
  pub activities : List ℕ
  pub inside : List Bool
  pub room : ℕ

-- there is this variable
abbrev pub IsVariable : List ℕ → ℕ → Type 0
IsVariable activities v = (1 ≤ v) × (v ≤ length activities)

-- whether a variable is inside
abbrev pub is_inside : List Bool → ℕ → Bool
is_inside inside v = get_or inside (v - 1) false

-- a variable is inside, and comes before all others that are
pub record IsFirst (index : ℕ) (activities : List ℕ) (inside : List Bool) (v : ℕ) : Type 0 where
  pub variable : IsVariable activities v
  pub within : is_inside inside v ≡ true
  pub first : (w : ℕ) → IsVariable activities w → is_inside inside w ≡ true → w ≢ v → precedes index activities v w ≡ true

-- no variable is inside
abbrev pub IsEmpty : List ℕ → List Bool → Type 0
IsEmpty activities inside = (v : ℕ) → IsVariable activities v → is_inside inside v ≡ false

-- what a heap keeps of its parts: the activities, the row, and how many are inside
pub record IsHeaped (index : ℕ) (activities items places : List ℕ) (count : ℕ) : Type 0 where
  pub row : IsRow items places
  pub long : length activities ≡ length places
  pub few : length activities ≤ greatest_variable
  pub within : count ≤ length items
  pub order : IsHeap index activities items count

-- there is room for so many more in each of three parts
abbrev pub HasRoom : ℕ → ℕ → ℕ → ℕ → Type 0
HasRoom n a b c = (n ≤ a) × (n ≤ b) × (n ≤ c)
