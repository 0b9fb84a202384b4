-- What a search for a minimal core finds.
use Rattle.std.specs.Prelude.{◌≡◌, ◌↔◌, ℕ, List, [], ◌∷◌, ◌++◌, codes}
use Rattle.spec_course.specs.Course.{Asked, Cause, unknown}
use Rattle.spec_job.specs.KeyedJob.{Key}
use Rattle.spec_hall.specs.Dressed.{keyed}
use Rattle.spec_inquiry.specs.Rounds.{asked_in}
use Rattle.spec_inquiry.specs.Searches.{IsSearch, one_solver}
use Rattle.spec_core.specs.Core.{Instance, Minimal, Unknown, first, step}
use Rattle.spec_core.specs.Right.{IsRight}

-- the job of a search
abbrev pub key : Key
key = keyed (codes "core") (codes "core")

-- a search ends unknown exactly where the last that was told is, for its cause
abbrev pub IsUnknownAsTold : List Asked → Minimal → Type 0
IsUnknownAsTold asked m =
    (before : List Asked) (last : Asked) (cause : Cause) → asked ≡ before ++ last ∷ []
    → (last.told ≡ unknown cause) ↔ (m ≡ Unknown cause)

-- a minimal core was found for an instance, or what else a search comes to: a job of its own was asked question by
-- question, and came to it; it is right, and unknown just where what was told is
pub record IsFound (slices : ℕ) (w : Instance) (m : Minimal) : Type 0 where
  pub search : IsSearch key (one_solver slices) (step w) (first w) m
  pub right : IsRight w m
  pub told : IsUnknownAsTold (asked_in search.rounds) m
