-- What holds of rising lists and of the search for a minimal core, in the form in which the law functions state it.
use Rattle.std.specs.Prelude.{◌≡◌, ◌↔◌, ℕ, ◌+◌, ◌-◌, ◌<◌, ◌≤◌, true, List, [], ◌∷◌, ◌++◌, length, Option, Some, None, Contains}
use Rattle.mal_base.specs.Clauses.{rises}
use Rattle.mal_revision.specs.Posted.{Posted, is_posted}
use Rattle.spec_course.specs.Course.{Asked, Leads, Cause, unknown}
use Rattle.spec_course.specs.Course.Next.{Asks, Ends}
use Rattle.spec_course.specs.Laws.{CourseGoesOn}
use Rattle.spec_course.specs.Supported.{AreSupported}
use Rattle.spec_core.specs.Core.{Instance, Narrowed, Minimal, Unknown, opening, without_next, step, first}
use Rattle.spec_core.specs.Right.{IsServed, IsNarrowed, IsRight}

-- a rising list within kept literals and more that has all that are kept begins with them, and the rest is of the more
abbrev pub KeptStayFirst : Type 0
KeptStayFirst =
    (kept more core : List ℕ) → rises (kept ++ more) ≡ true → rises core ≡ true
    → ((l : ℕ) → Contains core l → Contains (kept ++ more) l) → ((l : ℕ) → Contains kept l → Contains core l)
    → (rest : List ℕ) × (core ≡ kept ++ rest) × ((l : ℕ) → Contains rest l → Contains more l)

-- a search goes from question to question
abbrev pub SearchGoesOn : Type 0
SearchGoesOn = (w : Instance) → CourseGoesOn (step w)

-- after so many questions it is asked without the next literal of the core so far; with each question but the first
-- one literal less has no model
pub record AsksWithout (w : Instance) (n : ℕ) (c : Narrowed) (r : Posted) : Type 0 where
  pub narrowed : IsNarrowed w c
  pub next : length c.models < length c.core
  pub fewer : n + (length c.core - length c.models) ≤ length w.assumptions + 1
  pub without : r ≡ without_next w c

-- what a search asks after so many questions: first the formula under all assumptions
abbrev pub IsAsked : Instance → ℕ → Option Narrowed → Posted → Type 0
IsAsked w n None r = (n ≡ 0) × (r ≡ opening w)
IsAsked w n (Some c) r = AsksWithout w n c r

-- each question may be posted and is in its place
pub record IsQuestion (w : Instance) (n : ℕ) (c : Option Narrowed) (r : Posted) : Type 0 where
  pub posted : is_posted r ≡ true
  pub few : n ≤ length w.assumptions
  pub asked : IsAsked w n c r

abbrev pub SearchAsks : Type 0
SearchAsks =
    (w : Instance) (asked : List Asked) (c : Option Narrowed) (r : Posted) → IsServed w
    → AreSupported w.formula.variables w.formula.clauses asked → Leads (step w) (first w) asked (Asks c r)
    → IsQuestion w (length asked) c r

-- where what is told has its evidence, a search ends with what is right, after one question more than there are
-- assumptions at most
abbrev pub SearchIsRight : Type 0
SearchIsRight =
    (w : Instance) (asked : List Asked) (end : Minimal) → IsServed w
    → AreSupported w.formula.variables w.formula.clauses asked → Leads (step w) (first w) asked (Ends end)
    → IsRight w end × (length asked ≤ length w.assumptions + 1)

-- a search ends unknown exactly where the last that was told is, for its cause
abbrev pub UnknownIsTold : Type 0
UnknownIsTold =
    (w : Instance) (asked : List Asked) (x : Asked) (end : Minimal) (cause : Cause)
    → Leads (step w) (first w) (asked ++ x ∷ []) (Ends end)
    → (x.told ≡ unknown cause) ↔ (end ≡ Unknown cause)
