use Rattle.std.specs.Prelude.{◌≡◌, ℕ, ◌+◌, ◌*◌, ◌^◌, ◌≤◌, true, false, List, length, [], ◌∷◌, ◌++◌, sum_by, All, Contains, Option, Some, None}
use Rattle.mal_base.specs.NumberedClause.{Line}
use Rattle.mal_base.specs.declared.verdict.Verdict.TheVariants.{Satisfiable, Unsatisfiable}
use Rattle.spec_logic.specs.Logic.{satisfies_with}
use Rattle.spec_logic.specs.Refutation.{contradicts}
use Rattle.spec_node.specs.State.{Node, has_profile}
use Rattle.spec_node.specs.Load.{numbered}
use Rattle.spec_node.specs.Model.{model_of}
use Rattle.spec_node.specs.Sound.{AreLiteralsOf, IsSound}
use Rattle.spec_node.specs.Laws.{originals, HasModel}
use Rattle.spec_search.specs.Step.{step}
use Rattle.spec_search.specs.Slice.{slice, steps_from, is_over, numbers_of, most_numbers}
use Rattle.spec_search.specs.Derived.{with_lines, AreDerivedFrom}

-- a step of a sound node is sound
abbrev pub StepKeepsSound : Type 0
StepKeepsSound = (n : Node) → IsSound n → IsSound (step n)

-- a slice of a sound node is sound
abbrev pub SliceKeepsSound : Type 0
SliceKeepsSound = (n : Node) → IsSound n → IsSound (slice n).node

-- what a step and a slice leave as it was: the index, the profile, the variables, the assumptions and the original
-- clauses
pub record Leaves (before after : Node) : Type 0 where
  pub index : after.index ≡ before.index
  pub profile : after.profile ≡ before.profile
  pub variables : after.variables ≡ before.variables
  pub assumptions : after.assumptions ≡ before.assumptions
  pub originals : originals after.clauses ≡ originals before.clauses

-- a step leaves them
abbrev pub StepLeaves : Type 0
StepLeaves = (n : Node) → Leaves n (step n)

-- any number of steps of a slice leaves them
abbrev pub StepsLeave : Type 0
StepsLeave = (k used : ℕ) (n : Node) → Leaves n (steps_from k used n).node

-- a slice leaves them
abbrev pub SliceLeaves : Type 0
SliceLeaves = (n : Node) → Leaves n (slice n).node

-- a node that follows a profile follows it after a step and after a slice: only where the profile reduces, conflicts
-- are counted for droppings
abbrev pub StepKeepsProfile : Type 0
StepKeepsProfile = (n : Node) → has_profile n ≡ true → has_profile (step n) ≡ true

abbrev pub SliceKeepsProfile : Type 0
SliceKeepsProfile = (n : Node) → has_profile n ≡ true → has_profile (slice n).node ≡ true

-- a slice keeps that a satisfiable node has a model, whether a verdict stood before or not
abbrev pub SliceKeepsModel : Type 0
SliceKeepsModel = (n : Node) → IsSound n → HasModel n → HasModel (slice n).node

-- where the originals of a node are these clauses, numbered from 1, and a slice of it ends satisfiable, the model on
-- its trail satisfies the clauses and the assumptions, tautologies among them or not
abbrev pub SliceSolves : Type 0
SliceSolves = (n : Node) (clauses : List (Option (List ℕ))) → IsSound n → HasModel n → originals n.clauses ≡ numbered 1 clauses → (slice n).node.verdict ≡ Some Satisfiable → satisfies_with (model_of (slice n).node) clauses n.assumptions ≡ true

-- the lines of a slice of a sound node are derived one after another from the clauses held
abbrev pub LinesAreDerived : Type 0
LinesAreDerived = (n : Node) → IsSound n → AreDerivedFrom n.clauses (slice n).lines

-- what is held after a slice was held before it, or is of one of its lines
abbrev pub HeldAreOfLines : Type 0
HeldAreOfLines = (n : Node) → IsSound n → All (Contains (with_lines n.clauses (slice n).lines)) (slice n).node.clauses

-- the literals of each line are the node's, also where its clause was dropped since
abbrev pub LinesStayWithin : Type 0
LinesStayWithin = (n : Node) → IsSound n → All (λ l. AreLiteralsOf n.variables l.lits) (slice n).lines

-- the lines of a slice are 1,000 at the most, and so many numbers that they have room
pub record LinesFit (n : Node) : Type 0 where
  pub few : length (slice n).lines ≤ 1000
  pub numbers : sum_by numbers_of (slice n).lines ≤ most_numbers n.variables

abbrev pub LinesHaveRoom : Type 0
LinesHaveRoom = (n : Node) → LinesFit n

-- a sound node without a verdict makes at least one step in a slice: one line is always short enough
abbrev pub SliceGoesOn : Type 0
SliceGoesOn = (n : Node) → IsSound n → n.verdict ≡ None → is_over 0 n ≡ false

-- where a slice of a sound node refutes its clauses under its assumptions, its last line has the number of the goal,
-- and negations of assumptions alone
pub record IsRefutedBy (assumptions : List ℕ) (goal : ℕ) (lines : List Line) : Type 0 where
  pub before : List Line
  pub line : Line
  pub last : lines ≡ before ++ line ∷ []
  pub number : line.id ≡ goal
  pub contradicted : contradicts assumptions (Some line.lits) ≡ true

abbrev pub SliceRefutes : Type 0
SliceRefutes = (n : Node) (goal : ℕ) → IsSound n → n.verdict ≡ None → (slice n).node.verdict ≡ Some (Unsatisfiable goal) → IsRefutedBy n.assumptions goal (slice n).lines

-- a slice that refutes nothing derives no empty clause
abbrev pub EmptyRefutes : Type 0
EmptyRefutes = (n : Node) → IsSound n → ((goal : ℕ) → (slice n).node.verdict ≡ Some (Unsatisfiable goal) → ⊥) → All (λ l. 1 ≤ length l.lits) (slice n).lines

-- lines have the numbers of a node of this index from this serial on
abbrev pub AreNumbered : ℕ → ℕ → List Line → Type 0
AreNumbered serial index [] = Unit {0}
AreNumbered serial index (l ∷ ls) = (l.id ≡ 2 ^ 32 + serial * 64 + index) × AreNumbered (serial + 1) index ls

-- the lines of a slice have the node's next numbers, and its serial rises by one a line
pub record IsCounted (n : Node) : Type 0 where
  pub numbered : AreNumbered n.serial n.index (slice n).lines
  pub serial : (slice n).node.serial ≡ n.serial + length (slice n).lines

abbrev pub LinesAreCounted : Type 0
LinesAreCounted = (n : Node) → IsCounted n

-- what counts rises by 1,000 in a slice at the most
pub record CountsRise (n : Node) : Type 0 where
  pub serial : (slice n).node.serial ≤ n.serial + 1000
  pub conflicts_since_restart : (slice n).node.conflicts_since_restart ≤ n.conflicts_since_restart + 1000
  pub restart_number : (slice n).node.restart_number ≤ n.restart_number + 1000
  pub conflicts_since_dropping : (slice n).node.conflicts_since_dropping ≤ n.conflicts_since_dropping + 1000

abbrev pub SliceCounts : Type 0
SliceCounts = (n : Node) → CountsRise n
