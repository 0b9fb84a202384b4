use Rattle.std.specs.Prelude.{◌≡◌, ◌≢◌, ℕ, ◌≤◌, true, false, List, [], ◌∷◌, ◌++◌, drop, Option, Some, None}
use Rattle.std.specs.List.{list_all, list_any}
use Rattle.mal_revision.specs.Posted.{Posted}
use Rattle.mal_history.specs.declared.event.Share.{Share}
use Rattle.spec_job.specs.SoloMachine.{Own, solo}
use Rattle.spec_job.specs.KeyedJob.{Key}
use Rattle.spec_job.specs.Lawful.{IsLawful}
use Rattle.spec_job.specs.Models.{AnswersFollow, AnswersSolve, KeepsAnswers}
use Rattle.spec_job.specs.Proofs.{AnswersRefute, LogIsDerived}
use Rattle.spec_job.specs.DemandOne.{asks_for_one, is_single, AgreeAll}
use Rattle.spec_job.specs.Provenance.{ClausesAreOwn}
use Rattle.spec_job.specs.Replies.{reply}
use Rattle.spec_job.specs.Runnable.{IsRunnable}
use Rattle.spec_job.specs.Unknown.{is_fed}
use Rattle.spec_hall.specs.Events.{Event, Open, Revise, Reask, Close, Balance, Start, Finish, Exchange, Leave, Arrive}
use Rattle.spec_hall.specs.Own.{own, is_key, arrives, volume_in, volume_after}
use Rattle.spec_hall.specs.States.{names_of}
use Rattle.spec_hall.specs.Legal.{Legal}

-- a job's own events in a legal history may each happen after those before them
abbrev pub LegalIsRunnable : Type 0
LegalIsRunnable = (workers : ℕ) (history : List Event) → Legal workers history → (k : Key) → IsRunnable [] (own k history)

-- in a legal history each satisfiable answer of a job carries a model of its revision
abbrev pub LegalAnswersSolve : Type 0
LegalAnswersSolve = (workers : ℕ) (history : List Event) → Legal workers history → (k : Key) → AnswersSolve (solo (own k history))

-- in a legal history no revision is answered before it is posted
abbrev pub LegalAnswersFollow : Type 0
LegalAnswersFollow = (workers : ℕ) (history : List Event) → Legal workers history → (k : Key) → AnswersFollow (solo (own k history))

-- in a legal history each answer of a job that refutes carries a proof from the job's clauses alone
abbrev pub LegalAnswersRefute : Type 0
LegalAnswersRefute = (workers : ℕ) (history : List Event) → Legal workers history → (k : Key) → AnswersRefute (solo (own k history))

-- in a legal history the log of a job is derived from the job's clauses alone
abbrev pub LegalLogsDerived : Type 0
LegalLogsDerived = (workers : ℕ) (history : List Event) → Legal workers history → (k : Key) → LogIsDerived (solo (own k history))

-- an answer that was given stays, whatever events of the hall follow but an arrival of the job
abbrev pub JobAnswersStay : Type 0
JobAnswersStay = (k : Key) (past later : List Event) → list_any (arrives k) later ≡ false → KeepsAnswers (solo (own k past)) (solo (own k (past ++ later)))

-- the job that an event is of; a balancing is of all
abbrev pub job_in : Event → Option Key
job_in (Open k ask) = Some k
job_in (Revise k number r) = Some k
job_in (Reask k w) = Some k
job_in (Close k) = Some k
job_in (Balance shares) = None
job_in (Start k index worker) = Some k
job_in (Finish k index worker outcome) = Some k
job_in (Exchange k) = Some k
job_in (Leave k) = Some k
job_in (Arrive k brought) = Some k

-- in a legal history the own events of a job whose name came are lawful
abbrev pub LegalIsLawful : Type 0
LegalIsLawful =
    (workers : ℕ) (history : List Event) → 1 ≤ workers → workers ≤ 64 → Legal workers history
    → (k : Key) → list_any (is_key k) (names_of history) ≡ true → IsLawful (own k history)

-- a job goes on with what it brings, which leaves it no volume
abbrev pub OwnGoesOn : Type 0
OwnGoesOn =
    (j : Key) (past later : List Event) (brought : List Own) → volume_after brought ≡ 0 → list_any (arrives j) later ≡ false
    → own j (past ++ Arrive j brought ∷ later) ≡ brought ++ own j later

-- two histories in which a job has the same own events give it the same answers
abbrev pub OwnEventsAnswer : Type 0
OwnEventsAnswer = (k : Key) (one other : List Event) → own k one ≡ own k other → (solo (own k one)).answers ≡ (solo (own k other)).answers

-- and the same replies
abbrev pub OwnEventsReply : Type 0
OwnEventsReply = (k : Key) (one other : List Event) → own k one ≡ own k other → (r : ℕ) → reply k r (solo (own k one)) ≡ reply k r (solo (own k other))

-- an event of another job leaves a job's own events as they are
abbrev pub OthersLeaveOwn : Type 0
OthersLeaveOwn = (j k : Key) (history : List Event) (e : Event) → job_in e ≡ Some k → j ≢ k → own j (history ++ e ∷ []) ≡ own j history

-- so does a balancing that gives the job the volume that it has
abbrev pub SameVolumeLeavesOwn : Type 0
SameVolumeLeavesOwn = (j : Key) (history : List Event) (shares : List Share) → volume_in j shares ≡ volume_after (own j history) → own j (history ++ Balance shares ∷ []) ≡ own j history

-- in a legal history the clauses of each job are its own
abbrev pub LegalClausesOwn : Type 0
LegalClausesOwn = (workers : ℕ) (history : List Event) → Legal workers history → (k : Key) → ClausesAreOwn (solo (own k history))

-- a job asks for one worker, as it did at its opening and wherever its ask changed, no start of it ran out of memory,
-- and one node ran it
pub record AsksForOne (history : List Event) (k : Key) : Type 0 where
  pub demand : (solo (own k history)).ask.demand ≡ 1
  pub always : list_all asks_for_one (own k history) ≡ true
  pub fed : list_all is_fed (own k history) ≡ true
  pub single : list_all is_single (drop 1 (own k history)) ≡ true

-- so it is in a legal history where the job never arrived, its demand was always 1 and no start of it ran out of memory
abbrev pub LegalAsksForOne : Type 0
LegalAsksForOne =
    (workers : ℕ) (history : List Event) (k : Key) → Legal workers history → list_any (arrives k) history ≡ false
    → (solo (own k history)).ask.demand ≡ 1 → list_all asks_for_one (own k history) ≡ true → list_all is_fed (own k history) ≡ true → AsksForOne history k

-- the answers and the replies of a job that always asks for one worker are decided by its name, its budget, its
-- solvers' profile and its revisions up to that one, not by its priority, which may change: in any two legal histories,
-- whatever the numbers of workers and the other jobs, in which it has the same budget and the same profile and its
-- revisions in one begin with those in the other, they agree as far as both go
abbrev pub LegalSinglesAgree : Type 0
LegalSinglesAgree =
    (k : Key) (workers others : ℕ) (one other : List Event) (more : List Posted) → Legal workers one → Legal others other → AsksForOne one k → AsksForOne other k
    → (solo (own k one)).ask.slices ≡ (solo (own k other)).ask.slices → (solo (own k one)).ask.profile ≡ (solo (own k other)).ask.profile
    → (solo (own k other)).revisions ≡ (solo (own k one)).revisions ++ more → AgreeAll (solo (own k one)) (solo (own k other))
