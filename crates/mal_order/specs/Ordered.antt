use Rattle.mal_base.specs.Limits.{greatest_variable}
use Rattle.std.specs.Prelude.{◌≡◌, ℕ, ◌+◌, ◌≤◌, List, ◌∷◌, length, get_or}
use Rattle.mal_order.specs.Rings.{Ringed}

-- a decision order: the index of the node, the variables in order, for how many more there is room, and how many of the
-- first variables a search has passed
pub record Ordered : Type 0 where
  pub index : ℕ
  pub list : List ℕ
  pub room : ℕ
  pub passed : ℕ

-- the index is that of a node, there are no more variables than literals can be of, each place is one of theirs, and
-- the mark is the last variable that was passed, 0 where none was
pub record IsOrder (index : ℕ) (ring : Ringed) (passed mark : ℕ) : Type 0 where
  pub small : index ≤ 63
  pub bound : length ring.list ≤ greatest_variable
  pub places : ring.places ≡ length ring.list + 1
  pub within : passed ≤ length ring.list
  pub marked : mark ≡ get_or (0 ∷ ring.list) passed 0
