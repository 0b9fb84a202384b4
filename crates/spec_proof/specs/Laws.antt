-- What holds of logs and of what is trimmed of them, in the form in which the law functions state it.
use Rattle.std.specs.Prelude.{◌≡◌, ◌≢◌, ℕ, ◌^◌, ◌<◌, ◌≤◌, ◌⊎◌, Bool, true, List, [], ◌∷◌, ◌++◌, length, Option, Some, All, Any, Contains}
use Rattle.mal_base.specs.NumberedClause.{Line}
use Rattle.spec_logic.specs.Derivation.{Holding, derivation}
use Rattle.spec_logic.specs.Derivation.Derivation.{Derived}
use Rattle.spec_logic.specs.Refutation.{numbered, IsProof, contradicts, IsRefutation}
use Rattle.spec_proof.specs.Log.{proof_of, IsAbove, AreApart, IsOrderly, holding, IsLog, AreClosed}
use Rattle.spec_proof.specs.Trimmed.{IsTrimmed, reached, ids_of, counted, new_id, renumbered}

-- a derived line is derived too where more is held
abbrev pub DerivedWithMore : Type 0
DerivedWithMore =
    (held more : Holding) (clause : Option (List ℕ)) (hints : List ℕ)
    → ((id : ℕ) (c : Option (List ℕ)) → held id ≡ Some c → more id ≡ Some c)
    → derivation held clause hints ≡ Derived → derivation more clause hints ≡ Derived

-- what a log holds: its originals under 1, 2, .., the clause of each line under its number, and nothing else
pub record HoldsBoth (originals : List (Option (List ℕ))) (lines : List Line) : Type 0 where
  pub originals_held : (id : ℕ) (clause : Option (List ℕ)) → numbered originals id ≡ Some clause → holding originals lines id ≡ Some clause
  pub lines_held : (line : Line) → Contains lines line → holding originals lines line.id ≡ Some (Some line.lits)
  pub none_else : (id : ℕ) (clause : Option (List ℕ)) → holding originals lines id ≡ Some clause → (numbered originals id ≡ Some clause) ⊎ ((line : Line) × Contains lines line × (line.id ≡ id) × (clause ≡ Some line.lits))

abbrev pub LogHolds : Type 0
LogHolds = (originals : List (Option (List ℕ))) (lines : List Line) → IsLog originals lines → HoldsBoth originals lines

abbrev pub LogIsOrderly : Type 0
LogIsOrderly = (originals : List (Option (List ℕ))) (lines : List Line) → IsLog originals lines → IsOrderly lines

-- no lines are a log
abbrev pub EmptyIsLog : Type 0
EmptyIsLog = (originals : List (Option (List ℕ))) → length originals < 2 ^ 32 → IsLog originals []

-- a log grows by a line with a new number above its hints that is derived from what the log holds
abbrev pub LogGrows : Type 0
LogGrows =
    (originals : List (Option (List ℕ))) (lines : List Line) (line : Line)
    → IsLog originals lines → All (λ other. other.id ≢ line.id) lines → IsAbove line
    → derivation (holding originals lines) (Some line.lits) line.hints ≡ Derived
    → IsLog originals (lines ++ line ∷ [])

-- a log grows by the lines of a proof from clauses that it holds, where their numbers are new
abbrev pub LogTakesProof : Type 0
LogTakesProof =
    (originals : List (Option (List ℕ))) (lines more : List Line) (held : Holding)
    → IsLog originals lines → ((id : ℕ) (c : Option (List ℕ)) → held id ≡ Some c → holding originals lines id ≡ Some c)
    → IsProof held (proof_of more) → All IsAbove more → All (λ line. All (λ other. other.id ≢ line.id) lines) more
    → IsLog originals (lines ++ more)

-- a log stays one where originals are put after the others
abbrev pub LogTakesOriginals : Type 0
LogTakesOriginals =
    (originals more : List (Option (List ℕ))) (lines : List Line)
    → IsLog originals lines → length (originals ++ more) < 2 ^ 32 → IsLog (originals ++ more) lines

-- the lines reached from a goal: its own line, and each hint of one of them that is a line of the log; no others, by
-- rising number. So they are in each set of lines that has the goal's and the hints of those that it has
pub record IsReached (goal : ℕ) (lines : List Line) : Type 0 where
  pub trimmed : IsTrimmed (reached goal lines)
  pub of_log : (line : Line) → Contains (reached goal lines) line → Contains lines line
  pub has_goal : (line : Line) → Contains lines line → line.id ≡ goal → Contains (reached goal lines) line
  pub has_hints : (line other : Line) → Contains (reached goal lines) line → Contains lines other → Contains line.hints other.id → Contains (reached goal lines) other
  pub none_else : (line : Line) → Contains (reached goal lines) line → (line.id ≡ goal) ⊎ ((later : Line) × Contains (reached goal lines) later × Contains later.hints line.id)
  pub least : (set : Line → Bool) → ((line : Line) → Contains lines line → line.id ≡ goal → set line ≡ true) → ((line other : Line) → set line ≡ true → Contains lines other → Contains line.hints other.id → set other ≡ true) → (line : Line) → Contains (reached goal lines) line → set line ≡ true

abbrev pub ReachedIsReached : Type 0
ReachedIsReached = (goal : ℕ) (lines : List Line) → IsOrderly lines → IsReached goal lines

-- the goal's line is the last one
abbrev pub GoalIsLast : Type 0
GoalIsLast =
    (goal : ℕ) (lines : List Line) (line : Line) → IsOrderly lines → Contains lines line → line.id ≡ goal
    → (front : List Line) × (reached goal lines ≡ front ++ line ∷ [])

-- also after renumbering: the last line has its literals
abbrev pub GoalStaysLast : Type 0
GoalStaysLast =
    (m goal : ℕ) (lines : List Line) (line : Line) → IsOrderly lines → Contains lines line → line.id ≡ goal
    → (front : List Line) × (last : Line) × (renumbered m (reached goal lines) ≡ front ++ last ∷ []) × (last.lits ≡ line.lits)

-- lines that are entered later change nothing, where each hint of the earlier ones stands
abbrev pub LaterLinesDoNotMatter : Type 0
LaterLinesDoNotMatter =
    (goal : ℕ) (lines more : List Line) → IsOrderly (lines ++ more) → AreClosed lines → Any (λ line. line.id ≡ goal) lines
    → reached goal (lines ++ more) ≡ reached goal lines

-- hints that stand go on standing when a line is entered whose hints stand
abbrev pub ClosedLinesGrow : Type 0
ClosedLinesGrow =
    (lines : List Line) (line : Line) → AreClosed lines
    → All (λ hint. 2 ^ 32 ≤ hint → Any (λ other. other.id ≡ hint) lines) line.hints → AreClosed (lines ++ line ∷ [])

-- what is trimmed and renumbered has the literals of lines of the log
abbrev pub LitsStay : Type 0
LitsStay =
    (good : List ℕ → Bool) (m goal : ℕ) (lines : List Line)
    → All (λ line. good line.lits ≡ true) lines → All (λ line. good line.lits ≡ true) (renumbered m (reached goal lines))

-- lines with different numbers get the numbers m + 1, m + 2, .., and a number that none of them has stays
abbrev pub NumbersFollow : Type 0
NumbersFollow = (m : ℕ) (lines : List Line) → AreApart lines → ids_of (renumbered m lines) ≡ counted m lines

abbrev pub OthersStay : Type 0
OthersStay = (m : ℕ) (lines : List Line) (id : ℕ) → All (λ line. line.id ≢ id) lines → new_id m (ids_of lines) id ≡ id

-- where the clause of the goal's line has negations of assumptions alone, the lines reached from it, numbered after
-- the originals, are a refutation
abbrev pub TrimmedRefutes : Type 0
TrimmedRefutes =
    (originals : List (Option (List ℕ))) (assumptions : List ℕ) (goal : ℕ) (lines : List Line) (line : Line)
    → IsLog originals lines → Contains lines line → line.id ≡ goal → contradicts assumptions (Some line.lits) ≡ true
    → IsRefutation originals assumptions (proof_of (renumbered (length originals) (reached goal lines)))
