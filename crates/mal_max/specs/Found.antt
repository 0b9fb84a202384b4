-- What a search for an optimum finds.
use Rattle.std.specs.Prelude.{◌≡◌, ◌↔◌, ℕ, List, [], ◌∷◌, ◌++◌, codes}
use Rattle.spec_course.specs.Course.{Asked, Cause, unknown}
use Rattle.spec_job.specs.KeyedJob.{Key}
use Rattle.spec_hall.specs.Dressed.{keyed}
use Rattle.spec_inquiry.specs.Rounds.{asked_in}
use Rattle.spec_inquiry.specs.Searches.{IsSearch, one_solver}
use Rattle.spec_max.specs.Optimum.{Instance, Optimum, Unknown, first, step, last_solution}
use Rattle.spec_max.specs.Right.{IsRight}

-- the job of a search
abbrev pub key : Key
key = keyed (codes "max") (codes "max")

-- an optimum is unknown exactly where the last that was told is, for its cause, with the solution in the last model
abbrev pub IsUnknownAsTold : Instance → List Asked → Optimum → Type 0
IsUnknownAsTold w asked optimum =
    (before : List Asked) (last : Asked) (cause : Cause) → asked ≡ before ++ last ∷ []
    → (last.told ≡ unknown cause) ↔ (optimum ≡ Unknown (last_solution w before) cause)

-- an optimum was found for an instance: a job of its own was asked question by question, and came to it; it is right,
-- and unknown just where what was told is
pub record IsFound (slices : ℕ) (w : Instance) (optimum : Optimum) : Type 0 where
  pub search : IsSearch key (one_solver slices) (step w) (first w) optimum
  pub right : IsRight w optimum
  pub told : IsUnknownAsTold w (asked_in search.rounds) optimum
