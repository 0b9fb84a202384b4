use Rattle.std.specs.Prelude.{◌≡◌, ℕ, true, false, List, ◌++◌, is_some, Option, Some, None}
use Rattle.mal_base.specs.NumberedClause.{Line}
use Rattle.mal_base.specs.declared.answer.Answer.{Answer}
use Rattle.mal_base.specs.declared.verdict.Outcome.{Outcome}
use Rattle.mal_base.specs.declared.verdict.Outcome.TheVariants.{Lost}
use Rattle.spec_node.specs.State.{Node}
use Rattle.spec_search.specs.Slice.{Sliced}
use Rattle.spec_job.specs.Journal.{replay}
use Rattle.spec_job.specs.Leased.{Finished, model_with}
use Rattle.spec_job.specs.SoloMachine.{SoloMachine, Lease, place_at, is_late}
use Rattle.spec_job.specs.Viewed.{JobView, IsBack, journal_at}
use Rattle.mal_suspend.specs.declared.kept.Kept.{Kept}
use Rattle.mal_job.specs.Asking.{answer_with}
use Rattle.mal_job.specs.Placing.{HasJournal}

-- how a start ended of which this came back: it is lost where nothing came
abbrev pub outcome_of : Option Finished → Outcome
outcome_of None = Lost
outcome_of (Some d) = d.outcome

-- the start that is out at an index may end so: it is out, and what came back is its own
abbrev pub MayFinish : JobView → ℕ → Option Finished → Type 0
MayFinish v index None = is_some (place_at v.titled.state index).out ≡ true
MayFinish v index (Some d) = IsBack v index d

-- the start that is out at an index may end as one that ran out of memory: it is out, and what is kept of its node, if
-- anything is, has the journal from before it
pub record MayStarve (v : JobView) (index : ℕ) (kept : Option Kept) : Type 0 where
  pub out : is_some (place_at v.titled.state index).out ≡ true
  pub own : HasJournal kept (journal_at v index)

-- the slice of a start that is out at an index
abbrev pub slice_out : SoloMachine → ℕ → Lease → Sliced
slice_out s index l = replay s.ask.profile index ((place_at s index).entries ++ l.adds)

-- what a node answers where it has a verdict
abbrev pub answer_of : Node → Option Answer
answer_of n = answer_with n.verdict (model_with n.verdict n)

-- the start that is out at an index runs a slice of these lines and, unless it is late, of this answer
pub record MayFollow (v : JobView) (index : ℕ) (lines : List Line) (answer : Option Answer) : Type 0 where
  pub lease : Lease
  pub out : (place_at v.titled.state index).out ≡ Some lease
  pub told : lines ≡ (slice_out v.titled.state index lease).lines
  pub fits : is_late v.titled.state lease ≡ false → answer ≡ answer_of (slice_out v.titled.state index lease).node
