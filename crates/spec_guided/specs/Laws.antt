use Rattle.std.specs.Prelude.{◌≡◌, ℕ, ◌+◌, ◌≤◌, ◌<◌, true, false, All, Contains, List, length, map, filter, sum_by, Some, None}
use Rattle.mal_base.specs.declared.profile.Profile.{Profile}
use Rattle.mal_base.specs.NumberedClause.{NumberedClause, Line}
use Rattle.mal_revision.specs.Posted.{Posted, is_posted}
use Rattle.spec_node.specs.State.{Node}
use Rattle.spec_node.specs.Load.{counted, is_derived}
use Rattle.spec_node.specs.Sound.{AreLiteralsOf, IsSound}
use Rattle.spec_node.specs.Laws.{has_literals, AreNewNumbers, MayImport, HasModel}
use Rattle.spec_search.specs.Derived.{with_lines, AreDerivedFrom}
use Rattle.spec_search.specs.Laws.{Leaves, IsRefutedBy, AreNumbered}
use Rattle.spec_search.specs.Slice.{numbers_of, most_numbers}
use Rattle.spec_guided.specs.State.{Guide, Guided, fresh_guided}
use Rattle.mal_base.specs.declared.verdict.Verdict.TheVariants.{Unsatisfiable}
use Rattle.spec_logic.specs.Refutation.{contradicts}
use Rattle.spec_logic.specs.Derivation.{derivation}
use Rattle.spec_logic.specs.Derivation.Derivation.{Derived}
use Rattle.spec_learn.specs.Learning.{holding, derived_id}
use Rattle.spec_guided.specs.Step.{step, next_line}
use Rattle.spec_guided.specs.Slice.{slice_steps, slice, is_over}
use Rattle.spec_guided.specs.Load.{loaded_guided, imported_guided}

-- a node has no order of its own and counts nothing for it
abbrev pub IsUnordered : Node → Type 0
IsUnordered n = (n.conflicts_since_restart ≡ 0) × (n.restart_number ≡ 1) × (n.conflicts_since_dropping ≡ 0) × (n.order ≡ counted 1 n.variables)

-- a guide fits a node: it has a score for each variable, and a mark for each derived clause that is held, in their order
pub record Fits (n : Node) (g : Guide) : Type 0 where
  pub scores : length g.scores ≡ n.variables
  pub marks : map (λ m. m.id) g.marks ≡ map (λ c. c.id) (filter is_derived n.clauses)

-- a sound guided node: what holds of it from its first start on
pub record IsGuided (s : Guided) : Type 0 where
  pub sound : IsSound s.node
  pub unordered : IsUnordered s.node
  pub fits : Fits s.node s.guide

-- a guided node is sound at its first start, under each profile
abbrev pub FreshIsGuided : Type 0
FreshIsGuided = (i : ℕ) (profile : Profile) → i ≤ 63 → IsGuided (fresh_guided i profile)

-- loading a posted revision under new numbers keeps it sound
abbrev pub LoadKeepsGuided : Type 0
LoadKeepsGuided = (r : Posted) (first : ℕ) (s : Guided) → is_posted r ≡ true → has_literals r ≡ true → AreNewNumbers r first s.node → IsGuided s → IsGuided (loaded_guided r first s)

-- so does importing clauses that it may import
abbrev pub ImportKeepsGuided : Type 0
ImportKeepsGuided = (exported : List NumberedClause) (s : Guided) → MayImport exported s.node → IsGuided s → IsGuided (imported_guided exported s)

-- and a step, and a slice
abbrev pub StepKeepsGuided : Type 0
StepKeepsGuided = (s : Guided) → IsGuided s → IsGuided (step s)

abbrev pub SliceKeepsGuided : Type 0
SliceKeepsGuided = (s : Guided) → IsGuided s → IsGuided (slice s).guided

-- a step and a slice leave the index, the profile, the variables, the assumptions and the original clauses
abbrev pub StepLeaves : Type 0
StepLeaves = (s : Guided) → Leaves s.node (step s).node

abbrev pub SliceLeaves : Type 0
SliceLeaves = (s : Guided) → Leaves s.node (slice s).guided.node

-- a line is derived from the clauses that a node holds along its hints, under the node's next number, which is above
-- those held
pub record IsDerivedLine (n : Node) (l : Line) : Type 0 where
  pub derived : derivation (holding n.clauses) (Some l.lits) l.hints ≡ Derived
  pub number : l.id ≡ derived_id n
  pub above : All (λ c. c.id < derived_id n) n.clauses

-- so is each line that a step derives
abbrev pub LineIsDerived : Type 0
LineIsDerived = (s : Guided) → IsGuided s → (l : Line) → next_line s ≡ Some l → IsDerivedLine s.node l

-- a slice keeps that a satisfiable node has a model on its trail, whether a verdict stood before or not
abbrev pub SliceKeepsModel : Type 0
SliceKeepsModel = (s : Guided) → IsGuided s → HasModel s.node → HasModel (slice s).guided.node

-- a step that refutes the clauses derives the goal of its verdict, which has negations of assumptions alone
pub record IsGoalOf (s : Guided) (goal : ℕ) (l : Line) : Type 0 where
  pub next : next_line s ≡ Some l
  pub number : l.id ≡ goal
  pub contradicted : contradicts s.node.assumptions (Some l.lits) ≡ true

abbrev pub StepRefutes : Type 0
StepRefutes = (s : Guided) (goal : ℕ) → IsGuided s → s.node.verdict ≡ None → (step s).node.verdict ≡ Some (Unsatisfiable goal) → (l : Line) × IsGoalOf s goal l

-- the lines of a slice are derived one after another from the clauses held
abbrev pub LinesAreDerived : Type 0
LinesAreDerived = (s : Guided) → IsGuided s → AreDerivedFrom s.node.clauses (slice s).lines

-- what is held after a slice was held before it, or is of one of its lines
abbrev pub HeldAreOfLines : Type 0
HeldAreOfLines = (s : Guided) → IsGuided s → All (Contains (with_lines s.node.clauses (slice s).lines)) (slice s).guided.node.clauses

-- the literals of each line are the node's, also where its clause was given up since
abbrev pub LinesStayWithin : Type 0
LinesStayWithin = (s : Guided) → IsGuided s → All (λ l. AreLiteralsOf s.node.variables l.lits) (slice s).lines

-- the lines of a slice are at most as many as it has steps, and so many numbers that they have room
pub record LinesFit (s : Guided) : Type 0 where
  pub few : length (slice s).lines ≤ slice_steps
  pub numbers : sum_by numbers_of (slice s).lines ≤ most_numbers s.node.variables

abbrev pub LinesHaveRoom : Type 0
LinesHaveRoom = (s : Guided) → LinesFit s

-- where a slice refutes the clauses under the assumptions, its last line has the number of the goal, and negations of
-- assumptions alone
abbrev pub SliceRefutes : Type 0
SliceRefutes = (s : Guided) (goal : ℕ) → IsGuided s → s.node.verdict ≡ None → (slice s).guided.node.verdict ≡ Some (Unsatisfiable goal) → IsRefutedBy s.node.assumptions goal (slice s).lines

-- the lines of a slice have the node's next numbers, and its serial rises by one a line
pub record IsCounted (s : Guided) : Type 0 where
  pub numbered : AreNumbered s.node.serial s.node.index (slice s).lines
  pub serial : (slice s).guided.node.serial ≡ s.node.serial + length (slice s).lines

abbrev pub LinesAreCounted : Type 0
LinesAreCounted = (s : Guided) → IsCounted s

-- a guided node without a verdict makes at least one step in a slice: one line is always short enough
abbrev pub SliceGoesOn : Type 0
SliceGoesOn = (s : Guided) → IsGuided s → s.node.verdict ≡ None → is_over 0 s ≡ false

-- a slice that refutes nothing derives no empty clause
abbrev pub EmptyRefutes : Type 0
EmptyRefutes = (s : Guided) → IsGuided s → ((goal : ℕ) → (slice s).guided.node.verdict ≡ Some (Unsatisfiable goal) → ⊥) → All (λ l. 1 ≤ length l.lits) (slice s).lines
