-- What holds of the search for an optimum, in the form in which the law functions state it.
use Rattle.std.specs.Prelude.{◌≡◌, ◌↔◌, ℕ, ◌+◌, ◌≤◌, true, List, [], ◌∷◌, ◌++◌, length, Option, Some, None}
use Rattle.mal_revision.specs.Posted.{Posted, is_posted}
use Rattle.spec_course.specs.Course.{Asked, Leads, Cause, unknown}
use Rattle.spec_course.specs.Course.Next.{Asks, Ends}
use Rattle.spec_course.specs.Laws.{CourseGoesOn}
use Rattle.spec_course.specs.Supported.{AreSupported}
use Rattle.spec_max.specs.Optimum.{Instance, Solution, Optimum, Unknown, variables_in, clauses_in, opening, cheaper, step, first, last_solution}
use Rattle.spec_max.specs.Right.{IsServed, IsSolution, IsRight}

-- a search goes from question to question
abbrev pub SearchGoesOn : Type 0
SearchGoesOn = (w : Instance) → CourseGoesOn (step w)

-- after so many questions it is asked for less than the best solution so far, whose cost has fallen with each of them
-- but the first
pub record AsksForLess (w : Instance) (n : ℕ) (best : Solution) (r : Posted) : Type 0 where
  pub solution : IsSolution w best
  pub costs : 1 ≤ best.cost
  pub fallen : n + best.cost ≤ length w.softs + 1
  pub less : r ≡ cheaper w best.cost

-- what a search asks after so many questions: first formula and counter, and then for less
abbrev pub IsAsked : Instance → ℕ → Option Solution → Posted → Type 0
IsAsked w n None r = (n ≡ 0) × (r ≡ opening w)
IsAsked w n (Some best) r = AsksForLess w n best r

-- each question may be posted and is in its place
pub record IsQuestion (w : Instance) (n : ℕ) (best : Option Solution) (r : Posted) : Type 0 where
  pub posted : is_posted r ≡ true
  pub few : n ≤ length w.softs
  pub asked : IsAsked w n best r

abbrev pub SearchAsks : Type 0
SearchAsks =
    (w : Instance) (asked : List Asked) (best : Option Solution) (r : Posted) → IsServed w
    → AreSupported (variables_in w) (clauses_in w) asked → Leads (step w) (first w) asked (Asks best r)
    → IsQuestion w (length asked) best r

-- where what is told has its evidence, a search ends with what is right, after one question more than there are soft
-- literals at most
abbrev pub SearchIsRight : Type 0
SearchIsRight =
    (w : Instance) (asked : List Asked) (optimum : Optimum) → IsServed w
    → AreSupported (variables_in w) (clauses_in w) asked → Leads (step w) (first w) asked (Ends optimum)
    → IsRight w optimum × (length asked ≤ length w.softs + 1)

-- a search ends unknown exactly where the last that was told is, for its cause, with the solution in the last model
abbrev pub UnknownIsTold : Type 0
UnknownIsTold =
    (w : Instance) (asked : List Asked) (x : Asked) (optimum : Optimum) (cause : Cause)
    → Leads (step w) (first w) (asked ++ x ∷ []) (Ends optimum)
    → (x.told ≡ unknown cause) ↔ (optimum ≡ Unknown (last_solution w asked) cause)
