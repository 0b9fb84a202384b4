use Rattle.std.specs.Prelude.{◌≡◌, ◌+◌, ◌<◌, ◌^◌, true, List, [], ◌∷◌, ◌++◌, length}
use Rattle.mal_revision.specs.Posted.{Posted, is_posted}
use Rattle.spec_job.specs.SoloMachine.{Own, Opened, Revised, Reasked, Closed, Volume, Started, Finished, Exchanged, SoloMachine, unopened, solo, startable, clauses_in}
use Rattle.spec_job.specs.Models.{AnswersFollow, AnswersSolve, KeepsAnswers}
use Rattle.spec_job.specs.Proofs.{AnswersRefute, LogIsDerived}

-- a revision may come that was posted and whose clauses leave the numbers of originals below 2^32
pub record MayCome (s : SoloMachine) (r : Posted) : Type 0 where
  pub posted : is_posted r ≡ true
  pub room : clauses_in s.revisions + length r.clauses < 2 ^ 32

-- a job's machine may take an event: an opening before all else, a revision that may come, a start of a node that may
-- start, and any other
abbrev pub MayHappen : SoloMachine → Own → Type 0
MayHappen s (Opened ask) = s ≡ unopened
MayHappen s (Revised r) = MayCome s r
MayHappen s (Reasked w) = Unit {0}
MayHappen s Closed = Unit {0}
MayHappen s (Volume v) = Unit {0}
MayHappen s (Started i) = startable s i ≡ true
MayHappen s (Finished i outcome) = Unit {0}
MayHappen s Exchanged = Unit {0}

-- each own event may happen after the past and those before it
abbrev pub IsRunnable : List Own → List Own → Type 0
IsRunnable past [] = Unit {0}
IsRunnable past (o ∷ os) = MayHappen (solo past) o × IsRunnable (past ++ o ∷ []) os

-- a machine that was run on own events that may happen answers satisfiable only with a model
abbrev pub RunnableAnswersSolve : Type 0
RunnableAnswersSolve = (events : List Own) → IsRunnable [] events → AnswersSolve (solo events)

-- such a machine answers no revision before it is posted
abbrev pub RunnableAnswersFollow : Type 0
RunnableAnswersFollow = (events : List Own) → IsRunnable [] events → AnswersFollow (solo events)

-- such a machine answers unsatisfiable only with a proof
abbrev pub RunnableAnswersRefute : Type 0
RunnableAnswersRefute = (events : List Own) → IsRunnable [] events → AnswersRefute (solo events)

-- the log of such a machine is derived from its clauses
abbrev pub RunnableLogsDerived : Type 0
RunnableLogsDerived = (events : List Own) → IsRunnable [] events → LogIsDerived (solo events)

-- an answer that was given stays, whatever own events follow
abbrev pub AnswersStay : Type 0
AnswersStay = (past later : List Own) → KeepsAnswers (solo past) (solo (past ++ later))
