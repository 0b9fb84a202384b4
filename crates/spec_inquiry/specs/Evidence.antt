-- The evidence of what is told of a revision.
use Rattle.std.specs.Prelude.{◌≡◌, ℕ, List, [], ◌∷◌, Option, Some, All, slice_get}
use Rattle.mal_revision.specs.Posted.{Posted}
use Rattle.spec_report.specs.Replies.{ReplyBody}
use Rattle.spec_job.specs.Models.{clauses_through, variables_through}
use Rattle.spec_course.specs.Supported.{IsSupported}

-- what is told of a revision that was posted, counted from 0, has its evidence: a model has a value for each variable of
-- the revisions up to it and satisfies their clauses and its assumptions, the lines of a proof refute their clauses under
-- failed assumptions, which are among its own and rise by variable, and an unknown answer needs none
pub record IsEvidence (revisions : List Posted) (r : ℕ) (told : ReplyBody) : Type 0 where
  pub revision : Posted
  pub posted : slice_get revisions r ≡ Some revision
  pub supported : IsSupported (variables_through revisions r) (clauses_through revisions r) revision.assumptions told

-- a revision of so many variables that only assumes: it has no clauses
pub record OnlyAssumes (variables : ℕ) (revision : Posted) : Type 0 where
  pub has_variables : revision.variables ≡ variables
  pub has_none : revision.clauses ≡ []

-- the first revision has these variables and clauses, and those after it only assume
abbrev pub BeginWith : ℕ → List (Option (List ℕ)) → List Posted → Type 0
BeginWith variables clauses [] = Unit {0}
BeginWith variables clauses (p ∷ ps) = (p.variables ≡ variables) × (p.clauses ≡ clauses) × All (OnlyAssumes variables) ps
