-- The revisions among the steps of a job, counted.
use Rattle.std.specs.Prelude.{Bool, true, false, Option, Some, None}
use Rattle.mal_revision.specs.Posted.{Posted}
use Rattle.spec_script.specs.declared.step.Step.{Step}
use Rattle.spec_script.specs.declared.step.Step.TheVariants.{Revise, Reask}

-- whether a step posts a revision
abbrev pub is_revision : Step → Bool
is_revision (Revise r) = true
is_revision (Reask w) = false

-- the revision that a step posts
abbrev pub revision_of : Step → Option Posted
revision_of (Revise r) = Some r
revision_of (Reask w) = None
