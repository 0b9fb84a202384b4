use Rattle.std.specs.Prelude.{◌≡◌, ℕ, ◌+◌, ◌≤◌, true, not, ◌||◌, ◌==◌, nat_lt, List, ◌∷◌, length, reverse, find, Some}
use Rattle.std.specs.List.{list_all, list_any}
use Rattle.mal_base.specs.Literals.{var_of, negated}
use Rattle.mal_base.specs.declared.trail_entry.TrailEntry.{TrailEntry}
use Rattle.spec_logic.specs.Derivation.{derivation}
use Rattle.spec_logic.specs.Derivation.Derivation.{Derived}
use Rattle.spec_logic.specs.Refutation.{contradicts}
use Rattle.spec_node.specs.State.{Node}
use Rattle.spec_node.specs.Value.{is_true, is_false}
use Rattle.spec_node.specs.Sound.{AreLiteralsOf, level_in, IsSound}
use Rattle.spec_learn.specs.Analysis.{reached}
use Rattle.spec_learn.specs.Learning.{holding}
use Rattle.spec_learn.specs.Refuting.{core_analysis}

-- an assumption has failed: it is the first one that is not true, and it is false
pub record HasFailed (n : Node) (a : ℕ) : Type 0 where
  pub first : find (λ x. not (is_true n.trail x)) n.assumptions ≡ Some a
  pub fell : is_false n.trail a ≡ true

-- the core clause of a failed assumption of a sound node is derived from the clauses held along its hints
abbrev pub CoreIsDerived : Type 0
CoreIsDerived = (n : Node) (a : ℕ) → IsSound n → HasFailed n a → derivation (holding n.clauses) (Some (core_analysis a n).lits) (core_analysis a n).hints ≡ Derived

-- a core clause of a node: its literals are negations of assumptions, one of them that of the failed assumption; no
-- other one has level 0; and they are the node's, by rising variable
pub record IsCore (n : Node) (a : ℕ) (lits : List ℕ) : Type 0 where
  pub assumed : contradicts n.assumptions (Some lits) ≡ true
  pub own : list_any (λ l. l == negated a) lits ≡ true
  pub above : list_all (λ l. (l == negated a) || nat_lt 0 (level_in n.trail (var_of l))) lits ≡ true
  pub literals : AreLiteralsOf n.variables lits

abbrev pub CoreIsAssumed : Type 0
CoreIsAssumed = (n : Node) (a : ℕ) → IsSound n → HasFailed n a → IsCore n a (core_analysis a n).lits

-- the negation of a failed assumption was no decision: it has a reason, from which the analysis begins
pub record HasReason (n : Node) (a : ℕ) : Type 0 where
  pub entry : TrailEntry
  pub past : List TrailEntry
  pub id : ℕ
  pub is : reached (negated a) (reverse n.trail) ≡ entry ∷ past
  pub own : entry.lit ≡ negated a
  pub because : entry.reason ≡ Some id

abbrev pub FailedHasReason : Type 0
FailedHasReason = (n : Node) (a : ℕ) → IsSound n → HasFailed n a → HasReason n a

-- an analysis gives no more literals and hints than there are variables, and one more
abbrev pub CoreIsSmall : Type 0
CoreIsSmall = (n : Node) (a : ℕ) → IsSound n → length (core_analysis a n).lits + length (core_analysis a n).hints ≤ n.variables + 1
