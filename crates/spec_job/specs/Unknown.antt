use Rattle.std.specs.Prelude.{◌≡◌, ℕ, Bool, true, false, ◌&&◌, not, ◌==◌, All, List, [], ◌∷◌, ◌++◌, length, filter, slice_get, Option, Some, None}
use Rattle.std.specs.List.{list_all}
use Rattle.std.specs.Option.{option_map}
use Rattle.mal_base.specs.Asks.{Terms}
use Rattle.mal_base.specs.declared.answer.Answer.{Answer}
use Rattle.mal_base.specs.declared.answer.Answer.TheVariants.{Satisfied, Refuted, Spent, OutOfStarts}
use Rattle.mal_base.specs.declared.verdict.Outcome.{Outcome}
use Rattle.mal_base.specs.declared.verdict.Outcome.TheVariants.{Ran, Starved, Lost}
use Rattle.spec_node.specs.State.{Node}
use Rattle.spec_job.specs.Journal.{replay}
use Rattle.spec_job.specs.SoloMachine.{Own, Opened, Revised, Reasked, Closed, Volume, Started, Finished, Exchanged, Lease, SoloMachine, unopened, solo, solo_step, place_at, is_late}
use Rattle.spec_job.specs.Counts.{IsOpenedOnce}
use Rattle.spec_job.specs.DemandOne.{had_memory}

-- a start that has ended: for which revision it was, counted from 0, whether that had its answer by then, how it ended,
-- and the node that its slice leaves, which is the replay of the journal with the start's entries
pub record Ending : Type 0 where
  pub revision : ℕ
  pub late : Bool
  pub outcome : Outcome
  pub node : Node

-- how the start that is out at an index ends
abbrev pub ending_of : SoloMachine → ℕ → Outcome → Lease → Ending
ending_of s i outcome l = record { revision = l.revision; late = is_late s l; outcome = outcome; node = (replay s.ask.profile i ((place_at s i).entries ++ l.adds)).node }

-- the start that an own event ends: that of its node, where the event is a finish and the node is out
abbrev pub ended_by : SoloMachine → Own → Option Ending
ended_by s (Opened ask) = None
ended_by s (Revised r) = None
ended_by s (Reasked w) = None
ended_by s Closed = None
ended_by s (Volume v) = None
ended_by s (Started i) = None
ended_by s (Finished i outcome) = option_map (ending_of s i outcome) (place_at s i).out
ended_by s Exchanged = None

-- one more start that has ended, where there is one
abbrev pub with_ending : Option Ending → List Ending → List Ending
with_ending None rest = rest
with_ending (Some e) rest = e ∷ rest

-- the starts that have ended, in order, from a machine on
abbrev pub endings_from : SoloMachine → List Own → List Ending
endings_from s [] = []
endings_from s (o ∷ os) = with_ending (ended_by s o) (endings_from (solo_step s o) os)

-- the starts of a job that have ended, in order
abbrev pub endings : List Own → List Ending
endings events = endings_from unopened events

-- a slice was run
abbrev pub has_run : Outcome → Bool
has_run Ran = true
has_run Starved = false
has_run Lost = false

-- the slices of a revision: the starts for it that ran
abbrev pub is_slice_of : ℕ → Ending → Bool
is_slice_of r e = (e.revision == r) && has_run e.outcome

abbrev pub slices_of : ℕ → List Ending → List Ending
slices_of r es = filter (is_slice_of r) es

-- the starved starts of a revision: those for it that ran out of memory, before it had its answer
abbrev pub is_starved_of : ℕ → Ending → Bool
is_starved_of r e = (e.revision == r) && (not e.late && not (had_memory e.outcome))

abbrev pub starved_of : ℕ → List Ending → List Ending
starved_of r es = filter (is_starved_of r) es

-- a revision has spent so many slices: they are the budget, as many were run for it, and none of them gave a verdict
pub record HasSpent (slices : ℕ) (es : List Ending) (r n : ℕ) : Type 0 where
  pub budget : n ≡ slices
  pub count : length (slices_of r es) ≡ n
  pub no_verdict : All (λ e. e.node.verdict ≡ None) (slices_of r es)

-- an answer without a verdict is accounted for: the budget was spent, or three starts of the revision ran out of memory
abbrev pub IsAccountedFor : ℕ → List Ending → ℕ → Answer → Type 0
IsAccountedFor slices es r (Satisfied model) = Unit {0}
IsAccountedFor slices es r (Refuted goal) = Unit {0}
IsAccountedFor slices es r (Spent n) = HasSpent slices es r n
IsAccountedFor slices es r OutOfStarts = length (starved_of r es) ≡ 3

-- each answer of a job, counted from 0, is accounted for by its own events
abbrev pub AnswersAccountedFor : List Own → Type 0
AnswersAccountedFor events = (r : ℕ) (a : Answer) → slice_get (solo events).answers r ≡ Some a → IsAccountedFor (solo events).ask.slices (endings events) r a

-- an answer is a verdict, or the whole budget was spent without one
abbrev pub IsVerdictOrSpent : ℕ → List Ending → ℕ → Answer → Type 0
IsVerdictOrSpent slices es r (Satisfied model) = Unit {0}
IsVerdictOrSpent slices es r (Refuted goal) = Unit {0}
IsVerdictOrSpent slices es r (Spent n) = HasSpent slices es r n
IsVerdictOrSpent slices es r OutOfStarts = ⊥

-- whether an own event is no start that ran out of memory
abbrev pub is_fed : Own → Bool
is_fed (Finished i outcome) = had_memory outcome
is_fed event = true

-- where no start of a job ran out of memory, each answer is a verdict, or the whole budget was spent without one
abbrev pub FedAnswersDecide : List Own → Type 0
FedAnswersDecide events = list_all is_fed events ≡ true → (r : ℕ) (a : Answer) → slice_get (solo events).answers r ≡ Some a → IsVerdictOrSpent (solo events).ask.slices (endings events) r a

-- so it is of each job that is opened once, whose own events may happen
abbrev pub RunnableAnswersAccountedFor : Type 0
RunnableAnswersAccountedFor = (ask : Terms) (own : List Own) → IsOpenedOnce ask own → AnswersAccountedFor (Opened ask ∷ own)

abbrev pub RunnableFedAnswersDecide : Type 0
RunnableFedAnswersDecide = (ask : Terms) (own : List Own) → IsOpenedOnce ask own → FedAnswersDecide (Opened ask ∷ own)
