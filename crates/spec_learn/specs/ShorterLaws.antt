use Rattle.std.specs.Prelude.{◌≡◌, ℕ, ◌+◌, ◌<◌, ◌≤◌, true, false, ◌==◌, List, [], ◌∷◌, length, reverse, Some}
use Rattle.std.specs.List.{list_any}
use Rattle.mal_base.specs.Profiles.{policy}
use Rattle.spec_logic.specs.Derivation.{derivation}
use Rattle.spec_logic.specs.Derivation.Derivation.{Derived}
use Rattle.spec_node.specs.State.{Node}
use Rattle.spec_node.specs.Value.{level_of}
use Rattle.spec_node.specs.Sound.{IsSound}
use Rattle.spec_learn.specs.Analysis.{Analysed, walk_of}
use Rattle.spec_learn.specs.Learning.{holding, analysis, learned, taught}
use Rattle.spec_learn.specs.Laws.{IsAsserting}
use Rattle.spec_learn.specs.Lesson.{IsLesson}
use Rattle.spec_learn.specs.Shorter.{shorter_walk, longer_analysis, shorter_analysis, gone_through}

-- a lesson has one literal of the current level, jumps below it, and has one literal left after the jump
abbrev pub LessonAsserts : Type 0
LessonAsserts = (n : Node) (a : Analysed) → IsSound n → 0 < level_of n.trail → IsLesson n a → IsAsserting n a

-- learning it keeps a node sound
abbrev pub LessonKeepsSound : Type 0
LessonKeepsSound = (n : Node) (a : Analysed) → IsSound n → 0 < level_of n.trail → IsLesson n a → IsSound (taught a n)

-- the clause that is learned from a conflict is a lesson, under each profile, and learning from a conflict is to be
-- taught it
abbrev pub LearnedIsLesson : Type 0
LearnedIsLesson = (n : Node) (id : ℕ) → IsSound n → n.conflict ≡ Some id → 0 < level_of n.trail → IsLesson n (analysis id n)

abbrev pub LearnedIsTaught : Type 0
LearnedIsTaught = (n : Node) (id : ℕ) → learned id n ≡ taught (analysis id n) n

-- where the profile minimizes, the shorter clause is learned, elsewhere the one of the first implication point
pub record LearnsByProfile : Type 0 where
  pub shorter : (n : Node) (id : ℕ) → (policy n.profile).minimizes ≡ true → analysis id n ≡ shorter_analysis id n
  pub longer : (n : Node) (id : ℕ) → (policy n.profile).minimizes ≡ false → analysis id n ≡ longer_analysis id n

-- the shorter clause is a lesson
abbrev pub ShorterIsLesson : Type 0
ShorterIsLesson = (n : Node) (id : ℕ) → IsSound n → n.conflict ≡ Some id → 0 < level_of n.trail → IsLesson n (shorter_analysis id n)

-- it is derived from the clauses held along its hints
abbrev pub ShorterIsDerived : Type 0
ShorterIsDerived = (n : Node) (id : ℕ) → IsSound n → n.conflict ≡ Some id → derivation (holding n.clauses) (Some (shorter_analysis id n).lits) (shorter_analysis id n).hints ≡ Derived

-- at level 0 it is the empty clause
abbrev pub ShorterIsEmptyAtZero : Type 0
ShorterIsEmptyAtZero = (n : Node) (id : ℕ) → IsSound n → n.conflict ≡ Some id → level_of n.trail ≡ 0 → (shorter_analysis id n).lits ≡ []

-- it jumps to the level of the longer clause
abbrev pub ShorterJumpsAlike : Type 0
ShorterJumpsAlike = (n : Node) (id : ℕ) → IsSound n → n.conflict ≡ Some id → 0 < level_of n.trail → (shorter_analysis id n).level ≡ (longer_analysis id n).level

-- its entries are those of the longer clause that stay where they are gone through from the latest to the earliest
abbrev pub ShorterIsGoneThrough : Type 0
ShorterIsGoneThrough = (n : Node) (id : ℕ) → IsSound n → n.conflict ≡ Some id → 0 < level_of n.trail → (shorter_walk n.clauses (reverse n.trail) id).kept ≡ gone_through (level_of n.trail) n.clauses (reverse n.trail) (reverse (walk_of n.clauses (reverse n.trail) id).kept) []

-- its literals are among those of the longer clause
abbrev pub ShorterIsWithin : Type 0
ShorterIsWithin = (n : Node) (id : ℕ) → IsSound n → n.conflict ≡ Some id → 0 < level_of n.trail → (l : ℕ) → list_any (λ m. m == l) (shorter_analysis id n).lits ≡ true → list_any (λ m. m == l) (longer_analysis id n).lits ≡ true

-- it gives no more literals and hints than there are variables, and one more
abbrev pub ShorterIsSmall : Type 0
ShorterIsSmall = (n : Node) (id : ℕ) → IsSound n → length (shorter_analysis id n).lits + length (shorter_analysis id n).hints ≤ n.variables + 1

-- no number stands twice
abbrev pub AreDistinct : List ℕ → Type 0
AreDistinct [] = Unit {0}
AreDistinct (x ∷ xs) = (list_any (λ y. y == x) xs ≡ false) × AreDistinct xs

-- no hint stands twice
abbrev pub ShorterHintsDiffer : Type 0
ShorterHintsDiffer = (n : Node) (id : ℕ) → IsSound n → n.conflict ≡ Some id → AreDistinct (shorter_analysis id n).hints
