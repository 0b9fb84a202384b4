-- A search: what is asked next follows from what was told, until an outcome is reached.
use Rattle.std.specs.Prelude.{◌≡◌, ℕ, suc, ◌<◌, ◌≤◌, List, [], length, Some, slice_get}
use Rattle.std.specs.Option.{option_map_or}
use Rattle.mal_base.specs.Limits.{limits}
use Rattle.mal_base.specs.declared.profile.Profile.TheVariants.{Plain}
use Rattle.mal_base.specs.Asks.{Terms}
use Rattle.mal_base.specs.Formulas.{literals_of}
use Rattle.mal_base.specs.NumberedClause.{Line}
use Rattle.mal_revision.specs.Posted.{Posted}
use Rattle.spec_report.specs.Replies.{ReplyBody, Model, Proof, AllSpent, AllStarved}
use Rattle.spec_course.specs.Course.{Asked, Next, Leads}
use Rattle.spec_course.specs.Course.Next.{Asks, Ends}
use Rattle.spec_course.specs.Supported.{AreSupported}
use Rattle.spec_job.specs.KeyedJob.{Key}
use Rattle.spec_job.specs.Replies.{body_of}
use Rattle.spec_job.specs.SoloMachine.{solo}
use Rattle.spec_hall.specs.Events.{Event}
use Rattle.spec_hall.specs.Own.{own}
use Rattle.spec_inquiry.specs.Evidence.{OnlyAssumes}
use Rattle.spec_inquiry.specs.Rounds.{Round, IsInquiry, asked_in}

-- what the job of a search asks for: so many slices a revision, on one solver of profile 1
abbrev pub one_solver : ℕ → Terms
one_solver slices = record { priority = 1; demand = 1; slices = slices; profile = Plain }

-- a search came to this outcome: a job of this key and ask was asked in rounds, whose questions lead from the first to it
pub record IsSearch {S O : Type 0} (k : Key) (ask : Terms) (step : S → ReplyBody → Next S O) (first : Next S O) (outcome : O) : Type 0 where
  pub rounds : List Round
  pub history : List Event
  pub inquiry : IsInquiry k ask rounds history
  pub leads : Leads step first (asked_in rounds) (Ends outcome)

-- the lines of the proof that is told, none where no proof is
abbrev pub lines_in : ReplyBody → List Line
lines_in (Model model) = []
lines_in (Proof failed lines) = lines
lines_in (AllSpent n) = []
lines_in AllStarved = []

-- the lines of proofs, by the numbers of their questions, which are counted from 1
abbrev pub Proofs : Type 0
Proofs = ℕ → List Line

-- those that a job's machine tells at the end of a history
abbrev pub proofs_in : Key → List Event → Proofs
proofs_in k history n = option_map_or lines_in (body_of n (solo (own k history))) []

-- those that were told in rounds
abbrev pub AreToldIn : List Round → Proofs → Type 0
AreToldIn rounds proofs = (r : ℕ) (x : Round) → slice_get rounds r ≡ Some x → proofs (suc r) ≡ lines_in x.asked.told

-- a search is under way: the job was asked in so many rounds, whose questions lead from the first to what comes now,
-- where the proofs are those that were told
pub record IsUnderway {S O : Type 0} (k : Key) (ask : Terms) (step : S → ReplyBody → Next S O) (first : Next S O) (n : ℕ) (history : List Event) (now : Proofs → Next S O) : Type 0 where
  pub rounds : List Round
  pub inquiry : IsInquiry k ask rounds history
  pub leads : (proofs : Proofs) → AreToldIn rounds proofs → Leads step first (asked_in rounds) (now proofs)
  pub counted : length rounds ≡ n

-- a question of so many variables only assumes
abbrev pub AsksOnly : {S O : Type 0} → ℕ → Next S O → Type 0
AsksOnly variables (Asks s r) = OnlyAssumes variables r
AsksOnly variables (Ends o) = Unit {0}

-- each question after the first does
abbrev pub StepAssumes : {S O : Type 0} → ℕ → (S → ReplyBody → Next S O) → Type 0
StepAssumes {S} {O} variables step = (s : S) (told : ReplyBody) → AsksOnly variables (step s told)

-- fewer than 256 questions lead to one more
abbrev pub AreFew : {S O : Type 0} → (S → ReplyBody → Next S O) → S → Posted → Type 0
AreFew {S} {O} step start question =
    (asked : List Asked) (s : S) (r : Posted) → AreSupported question.variables question.clauses asked
    → Leads step (Asks start question) asked (Asks s r) → length asked < limits.revisions

-- a job has room for all questions of a search: the first has the clauses of all, which are within the limits, and there
-- are 256 at most
pub record HasRoom {S O : Type 0} (step : S → ReplyBody → Next S O) (start : S) (question : Posted) : Type 0 where
  pub assumes : StepAssumes question.variables step
  pub clauses : length question.clauses ≤ limits.clauses
  pub literals : literals_of question.clauses ≤ limits.literals
  pub few : AreFew step start question
