-- What is found of a revision.
use Rattle.std.specs.Prelude.{◌≡◌, ℕ, List, Option, Some, None}
use Rattle.mal_base.specs.NumberedClause.{Line}
use Rattle.mal_job.specs.declared.finding.Finding.{Finding}
use Rattle.mal_job.specs.declared.finding.Finding.TheVariants as found
use Rattle.mal_report.specs.declared.told.Cause.TheVariants as cause
use Rattle.spec_report.specs.Replies.{ReplyBody, Model, Proof, AllSpent, AllStarved}
use Rattle.spec_job.specs.Replies.{body_of}
use Rattle.spec_job.specs.SoloMachine.{SoloMachine}

-- what is told where this is found, and where these are the lines of the proof
abbrev pub told_by : List Line → Finding → ReplyBody
told_by lines (found.Model model) = Model model
told_by lines (found.Failed failed) = Proof failed.items lines
told_by lines (found.Unknown (cause.Spent n)) = AllSpent n
told_by lines (found.Unknown cause.Starved) = AllStarved

-- this is found of a revision, numbered from 1: a machine's reply tells it, with some lines, and nothing exactly where
-- there is none
abbrev pub Finds : ℕ → Option Finding → SoloMachine → Type 0
Finds r None s = body_of r s ≡ None
Finds r (Some found) s = (lines : List Line) × (body_of r s ≡ Some (told_by lines found))
