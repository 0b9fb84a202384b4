use Rattle.std.specs.Prelude.{◌≡◌, ℕ, ◌+◌, ◌<◌, ◌≤◌, [], length, Some}
use Rattle.spec_logic.specs.Derivation.{derivation}
use Rattle.spec_logic.specs.Derivation.Derivation.{Derived}
use Rattle.spec_node.specs.State.{Node}
use Rattle.spec_node.specs.Value.{level_of, open_count}
use Rattle.spec_node.specs.Cut.{kept}
use Rattle.spec_node.specs.Sound.{current_count, IsSound}
use Rattle.spec_learn.specs.Analysis.{Analysed}
use Rattle.spec_learn.specs.Learning.{holding, analysis, learned}

-- the line of a waiting conflict of a sound node is derived from the clauses held along its hints
abbrev pub LineIsDerived : Type 0
LineIsDerived = (n : Node) (id : ℕ) → IsSound n → n.conflict ≡ Some id → derivation (holding n.clauses) (Some (analysis id n).lits) (analysis id n).hints ≡ Derived

-- a clause is asserting: it has one literal of the current level, the jump goes below that, and after it one literal is
-- left
pub record IsAsserting (n : Node) (a : Analysed) : Type 0 where
  pub one : current_count n.trail a.lits ≡ 1
  pub below : a.level < level_of n.trail
  pub unit : open_count (kept a.level n.trail) a.lits ≡ 1

abbrev pub LearnedAsserts : Type 0
LearnedAsserts = (n : Node) (id : ℕ) → IsSound n → n.conflict ≡ Some id → 0 < level_of n.trail → IsAsserting n (analysis id n)

-- at level 0 it is the empty clause
abbrev pub EmptyAtZero : Type 0
EmptyAtZero = (n : Node) (id : ℕ) → IsSound n → n.conflict ≡ Some id → level_of n.trail ≡ 0 → (analysis id n).lits ≡ []

-- an analysis gives no more literals and hints than there are variables, and one more
abbrev pub AnalysisIsSmall : Type 0
AnalysisIsSmall = (n : Node) (id : ℕ) → IsSound n → length (analysis id n).lits + length (analysis id n).hints ≤ n.variables + 1

-- learning above level 0 keeps a node sound
abbrev pub LearnKeepsSound : Type 0
LearnKeepsSound = (n : Node) (id : ℕ) → IsSound n → n.conflict ≡ Some id → 0 < level_of n.trail → IsSound (learned id n)
