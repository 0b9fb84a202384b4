-- Laws of the service, as they stand on the functions of `lib.rt`.
use Rattle.std.specs.Prelude.{◌≡◌, ℕ, ◌≤◌, List, [], Option, Ok, Err}
use Rattle.mal_turn.specs.declared.view.View.{View}
use Rattle.mal_turn.specs.Rule.{At}
use Rattle.mal_base.specs.Asks.{Terms}
use Rattle.spec_job.specs.Models.{AnswersSolve}
use Rattle.spec_job.specs.Proofs.{AnswersRefute}
use Rattle.spec_job.specs.Provenance.{ClausesAreOwn}
use Rattle.spec_job.specs.Replies.{reply}
use Rattle.spec_job.specs.SoloMachine.{SoloMachine, solo}
use Rattle.spec_job.specs.KeyedJob.{Key}
use Rattle.mal_base.specs.declared.hall_fault.ReviseFault.TheVariants as revising
use Rattle.mal_base.specs.declared.hall_fault.ReaskFault.TheVariants as reasking
use Rattle.mal_base.specs.declared.hall_fault.CloseFault.TheVariants as closing
use Rattle.mal_base.specs.declared.hall_fault.ReplyFault.TheVariants as asking
use Rattle.spec_hall.specs.Events.{Event}
use Rattle.spec_hall.specs.Own.{own}
use Rattle.spec_run.specs.Losses.{NoneIsLost}
use Rattle.mal_service.specs.Record.{Answered, Opened, Revised, Reasked, Closed, Asked, Picked, Gave, AreAnsweredFrom, Entry, IsLegal, Record, entry, events_of}
use Rattle.mal_service.specs.Passes.{Enters}

-- a record of which each answer and its events are those of the hall's call at that point is legal
abbrev pub AnswersAreLegal : Type 0
AnswersAreLegal = (workers : ℕ) (log : Record) → 1 ≤ workers → workers ≤ 64 → AreAnsweredFrom workers [] log → IsLegal workers log

-- a call is answered that there is no job of this key
abbrev pub TellsNoJob : Key → Answered → Type 0
TellsNoJob k (Opened j ask answer) = ⊥
TellsNoJob k (Revised j r answer) = (j ≡ k) × (answer ≡ Err revising.NoJob)
TellsNoJob k (Reasked j weight answer) = (j ≡ k) × (answer ≡ Err reasking.NoJob)
TellsNoJob k (Closed j answer) = (j ≡ k) × (answer ≡ Err closing.NoJob)
TellsNoJob k (Asked j r answer) = (j ≡ k) × (answer ≡ Err asking.NoJob)
TellsNoJob k (Picked worker answer) = ⊥
TellsNoJob k (Gave d answer) = ⊥

-- a pass that has seen that a job was opened is never told that there is no such job
abbrev pub OpenedIsFound : Type 0
OpenedIsFound =
    (workers : ℕ) (before after : View Entry) (k : Key) (ask : Terms) (done : Unit {0}) (es : List Event) (i : ℕ) (n : List ℕ) (c : Answered)
    → At before.seen i (n, entry (Opened k ask (Ok done)) es) → Enters workers before c after → TellsNoJob k c → ⊥

-- the machine of a job, run alone on its own events of a record
abbrev pub machine : Key → Record → SoloMachine
machine k log = solo (own k (events_of log))

-- a reply that a pass was told is that of the job's machine, run alone on the job's own events of the record that the
-- pass has then seen; the machine's answers carry models and proofs, and its clauses are the job's own
pub record IsTold (k : Key) (r : ℕ) (text : Option (List ℕ)) (log : Record) : Type 0 where
  pub told : text ≡ reply k r (machine k log)
  pub models : AnswersSolve (machine k log)
  pub proofs : AnswersRefute (machine k log)
  pub own_clauses : ClausesAreOwn (machine k log)

abbrev pub RepliesAreSolo : Type 0
RepliesAreSolo =
    (workers : ℕ) (before after : View Entry) (k : Key) (r : ℕ) (text : Option (List ℕ))
    → Enters workers before (Asked k r (Ok text)) after → IsTold k r text after.seen

-- two services whose records agree on a job's own events tell equal replies of it
abbrev pub AgreeingTellEqual : Type 0
AgreeingTellEqual =
    (workers others : ℕ) (before after early late : View Entry) (k : Key) (r : ℕ) (text other : Option (List ℕ))
    → Enters workers before (Asked k r (Ok text)) after → Enters others early (Asked k r (Ok other)) late
    → own k (events_of after.seen) ≡ own k (events_of late.seen) → text ≡ other

-- no lease is lost in a legal record
abbrev pub RecordsLoseNone : Type 0
RecordsLoseNone = (workers : ℕ) (log : Record) → IsLegal workers log → NoneIsLost (events_of log)
