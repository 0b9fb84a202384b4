use Rattle.std.specs.Prelude.{◌≡◌, ℕ, ◌+◌, ◌-◌, ◌*◌, ◌<◌, ◌≤◌, ◌==◌, nat_lt, not, ◌&&◌, Bool, List, [], ◌∷◌, ◌++◌, length, replicate, Option, Some, None, is_some, if◌then◌else◌}
use Rattle.mal_base.specs.Limits.{limits}
use Rattle.mal_base.specs.declared.answer.Answer.{Answer}
use Rattle.mal_base.specs.declared.answer.Answer.TheVariants.{Satisfied, Refuted, Spent, OutOfStarts}
use Rattle.mal_base.specs.declared.verdict.Verdict.{Verdict}
use Rattle.mal_base.specs.declared.verdict.Verdict.TheVariants.{Satisfiable, Unsatisfiable}
use Rattle.mal_revision.specs.Posted.{Posted}
use Rattle.spec_job.specs.SoloMachine.{clauses_in, literals_in}
use Rattle.mal_job.specs.Viewed.{QuestionsView}

-- these are the numbers of the clauses and of the literals of revisions, each of which is within what is served
pub record AreSums (revisions : List Posted) (clauses literals : ℕ) : Type 0 where
  pub clauses_summed : clauses ≡ clauses_in revisions
  pub literals_summed : literals ≡ literals_in revisions
  pub few : literals ≤ length revisions * limits.literals

-- one revision more
abbrev pub and_revision : QuestionsView → Posted → QuestionsView
and_revision q r = record q { revisions = q.revisions ++ r ∷ [] }

-- the current revision is answered
abbrev pub replied : QuestionsView → Answer → QuestionsView
replied q a = record q { answers = q.answers ++ a ∷ []; spent = 0; starved = 0 }

-- a slice that answers nothing counts as spent, and the last of the budget answers unknown
abbrev pub spent_once : QuestionsView → QuestionsView
spent_once q = if q.spent + 1 == q.ask.slices then replied q (Spent q.ask.slices) else record q { spent = q.spent + 1 }

-- what a verdict answers with the model that goes with it
abbrev pub answer_by : Verdict → List Bool → Answer
answer_by Satisfiable model = Satisfied model
answer_by (Unsatisfiable goal) model = Refuted goal

-- what a slice answers that ended with this verdict and the model that goes with it
abbrev pub answer_with : Option Verdict → List Bool → Option Answer
answer_with None model = None
answer_with (Some v) model = Some (answer_by v model)

-- a slice ended with this answer, or with none
abbrev pub concluded : Option Answer → QuestionsView → QuestionsView
concluded None q = spent_once q
concluded (Some a) q = replied q a

-- the third start of a revision that ran out of memory answers unknown
abbrev pub starved_once : QuestionsView → QuestionsView
starved_once q = if q.starved + 1 == 3 then replied q OutOfStarts else record q { starved = q.starved + 1 }

-- a slice for this revision ended with this answer, or with none: where the revision has its answer it came late and
-- answers nothing
abbrev pub concluded_by : ℕ → Option Answer → QuestionsView → QuestionsView
concluded_by revision answer q = if nat_lt revision (length q.answers) then q else concluded answer q

-- whether it answers the revision
abbrev pub ends_by : ℕ → Option Answer → QuestionsView → Bool
ends_by revision answer q = not (nat_lt revision (length q.answers)) && is_some answer

-- a start for this revision ran out of memory: where the revision has its answer it is not counted
abbrev pub starved_by : ℕ → QuestionsView → QuestionsView
starved_by revision q = if nat_lt revision (length q.answers) then q else starved_once q

-- the number of an empty clause answers every revision without an answer
abbrev pub settled_with : Option ℕ → QuestionsView → QuestionsView
settled_with None q = q
settled_with (Some goal) q = record q { answers = q.answers ++ replicate (length q.revisions - length q.answers) (Refuted goal); spent = 0; starved = 0 }

-- the counts of what was asked are within their bounds
pub record IsAsked (q : QuestionsView) : Type 0 where
  pub left : q.spent < q.ask.slices
  pub few_slices : q.ask.slices ≤ limits.slices
  pub few_starved : q.starved ≤ 2
  pub order : length q.answers ≤ length q.revisions
  pub few : length q.revisions ≤ limits.revisions
  pub clauses : clauses_in q.revisions ≤ limits.clauses
