use Rattle.std.specs.Prelude.{◌≡◌, ℕ, List, Some, None}
use Rattle.mal_base.specs.NumberedClause.{lits_under}
use Rattle.spec_node.specs.State.{Node}
use Rattle.spec_node.specs.Value.{level_of}
use Rattle.spec_node.specs.Sound.{IsSound}
use Rattle.spec_learn.specs.Learning.{derived_id}
use Rattle.spec_learn.specs.Refuting.{refuted, emptied, cored}
use Rattle.spec_learn.specs.CoreLaws.{HasFailed}

-- deriving the empty clause at level 0 keeps a node sound
abbrev pub EmptyKeepsSound : Type 0
EmptyKeepsSound = (n : Node) (id : ℕ) → IsSound n → n.conflict ≡ Some id → level_of n.trail ≡ 0 → IsSound (emptied id n)

-- deriving the core clause of a failed assumption keeps a node sound
abbrev pub CoreKeepsSound : Type 0
CoreKeepsSound = (n : Node) (a : ℕ) → IsSound n → HasFailed n a → IsSound (cored a n)

-- the number of the next derived clause of a sound node is not held
abbrev pub NumberIsNew : Type 0
NumberIsNew = (n : Node) → IsSound n → lits_under (derived_id n) n.clauses ≡ None

-- the goal is held afterwards, and what was held is
abbrev pub GoalIsHeld : Type 0
GoalIsHeld = (n : Node) (lits : List ℕ) → IsSound n → lits_under (derived_id n) (refuted lits n).clauses ≡ Some lits

abbrev pub OthersStayHeld : Type 0
OthersStayHeld = (n : Node) (lits : List ℕ) (id : ℕ) (others : List ℕ) → IsSound n → lits_under id n.clauses ≡ Some others → lits_under id (refuted lits n).clauses ≡ Some others
