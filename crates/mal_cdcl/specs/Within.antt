use Rattle.std.specs.Prelude.{◌≡◌, ℕ, ◌≤◌, Bool, true, List, length, take, nat_le}
use Rattle.std.specs.List.{list_all}
use Rattle.mal_base.specs.Limits.{limits}
use Rattle.mal_base.specs.Formulas.{is_within}
use Rattle.mal_base.specs.NumberedClause.{NumberedClause, Line}
use Rattle.mal_base.specs.declared.trail_entry.TrailEntry.{TrailEntry}
use Rattle.spec_node.specs.State.{Node}
use Rattle.spec_node.specs.Value.{has_value, is_true}
use Rattle.spec_node.specs.Sound.{NumbersRise}
use Rattle.mal_order.specs.Ordered.{Ordered}
use Rattle.mal_trail.specs.Rooms.{Room, are_within}

-- each variable is at most this one
abbrev pub is_order_of : ℕ → List ℕ → Bool
is_order_of variables order = list_all (λ v. nat_le v variables) order

-- what a node's parts keep: all that it holds speaks of its variables, which the trail has room for, the order has as
-- many as there are and turns by the node's index, and the numbers of its clauses rise
pub record IsNode (index variables most : ℕ) (assumptions : List ℕ) (order : Ordered) (phases : List Bool) (clauses : List NumberedClause) : Type 0 where
  pub place : index ≤ 63
  pub small : variables ≤ limits.variables
  pub room : variables ≤ most
  pub assumed : is_within variables assumptions ≡ true
  pub turned : order.index ≡ index
  pub ordered : is_order_of variables order.list ≡ true
  pub complete : length order.list ≡ variables
  pub phased : length phases ≡ variables
  pub claused : are_within variables clauses ≡ true
  pub rising : NumbersRise 1 clauses

-- what a search has passed: the first variables of the order have values, and the first assumptions are true
pub record IsPast (trail : List TrailEntry) (order : Ordered) (assumptions : List ℕ) (passed : ℕ) : Type 0 where
  pub valued : list_all (has_value trail) (take order.passed order.list) ≡ true
  pub assumed : list_all (is_true trail) (take passed assumptions) ≡ true

-- what a node has room for: variables on its trail, variables of the order and phases that it does not have yet,
-- assumptions, what its engine has room for, and lines more with their literals and hints
pub record NodeRoom : Type 0 where
  pub trail : ℕ
  pub order : ℕ
  pub phases : ℕ
  pub assumptions : ℕ
  pub engine : Room
  pub lines : ℕ
  pub line_literals : ℕ
  pub hints : ℕ

-- a node as contracts see it: its state, what it has room for, and the lines that its last slice derived
pub record NodeWithRoom : Type 0 where
  pub state : Node
  pub spare : NodeRoom
  pub lines : List Line
