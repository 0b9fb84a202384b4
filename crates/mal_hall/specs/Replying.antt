use Rattle.std.specs.Prelude.{◌≡◌, List, Some}
use Rattle.spec_hall.specs.Events.{Event}
use Rattle.spec_hall.specs.Legal.{job_of}
use Rattle.spec_hall.specs.Own.{own}
use Rattle.spec_hall.specs.States.{states}
use Rattle.spec_job.specs.KeyedJob.{Key, KeyedJob}
use Rattle.spec_job.specs.Models.{AnswersSolve}
use Rattle.spec_job.specs.Proofs.{AnswersRefute}
use Rattle.spec_job.specs.Provenance.{ClausesAreOwn}
use Rattle.spec_job.specs.SoloMachine.{SoloMachine, solo}

-- the job is there, and this holds of its machine
abbrev pub HasJob : Key → List Event → (SoloMachine → Type 0) → Type 0
HasJob k events holds = (t : KeyedJob) × (job_of k (states events) ≡ Some t) × holds t.state

-- if the job is there, this holds of its machine
abbrev pub OfJob : Key → List Event → (SoloMachine → Type 0) → Type 0
OfJob k events holds = (t : KeyedJob) → job_of k (states events) ≡ Some t → holds t.state

-- whatever the other events are, this holds of the machine run alone on the job's own
abbrev pub OfAlone : Key → List Event → (SoloMachine → Type 0) → Type 0
OfAlone k events holds = (other : List Event) → own k other ≡ own k events → holds (solo (own k other))

-- if the job is there, its answers solve and refute the revisions that they answer, and its clauses are its own
pub record AnswersRightly (k : Key) (events : List Event) : Type 0 where
  pub models : OfJob k events AnswersSolve
  pub proofs : OfJob k events AnswersRefute
  pub own_clauses : OfJob k events ClausesAreOwn
