-- The record of a service: the calls that were made of its hall, by whom, with their answers.
use Rattle.std.specs.Prelude.{◌≡◌, ℕ, List, [], ◌∷◌, ◌++◌, flat_map, Option, Result}
use Rattle.mal_turn.specs.Rule.{Log}
use Rattle.mal_base.specs.Asks.{Terms, Weighed}
use Rattle.mal_revision.specs.Posted.{Posted}
use Rattle.spec_job.specs.Leased.{Finished}
use Rattle.spec_job.specs.KeyedJob.{Key}
use Rattle.mal_base.specs.declared.hall_fault.OpenFault.{OpenFault}
use Rattle.mal_base.specs.declared.hall_fault.ReviseFault.{ReviseFault}
use Rattle.mal_base.specs.declared.hall_fault.ReaskFault.{ReaskFault}
use Rattle.mal_base.specs.declared.hall_fault.CloseFault.{CloseFault}
use Rattle.mal_base.specs.declared.hall_fault.PickFault.{PickFault}
use Rattle.mal_base.specs.declared.hall_fault.ReplyFault.{ReplyFault}
use Rattle.spec_hall.specs.Calls.{IsCall, Offer, Return, Opens, Revises, Reasks, Closes, Asks, Picks, Finishes}
use Rattle.spec_hall.specs.Events.{Event}
use Rattle.spec_hall.specs.Legal.{Legal}

-- a call of the service with its arguments and its answer: a job was opened, revised, asked anew or closed, the reply to
-- a revision was asked for, a worker picked, or what came of a lease was given back
pub data Answered : Type 0 where
  Opened : Key → Terms → Result (Unit {0}) OpenFault → Answered
  Revised : Key → Posted → Result (Unit {0}) ReviseFault → Answered
  Reasked : Key → Weighed → Result (Unit {0}) ReaskFault → Answered
  Closed : Key → Result (Unit {0}) CloseFault → Answered
  Asked : Key → ℕ → Result (Option (List ℕ)) ReplyFault → Answered
  Picked : ℕ → Result Offer PickFault → Answered
  Gave : Finished → Return → Answered

-- the hall's call after a past is answered so and enters these events
abbrev pub IsAnswered : ℕ → List Event → Answered → List Event → Type 0
IsAnswered workers past (Opened k ask answer) es = IsCall workers past (Opens k ask) answer es
IsAnswered workers past (Revised k r answer) es = IsCall workers past (Revises k r) answer es
IsAnswered workers past (Reasked k weight answer) es = IsCall workers past (Reasks k weight) answer es
IsAnswered workers past (Closed k answer) es = IsCall workers past (Closes k) answer es
IsAnswered workers past (Asked k r answer) es = IsCall workers past (Asks k r) answer es
IsAnswered workers past (Picked worker answer) es = IsCall workers past (Picks worker) answer es
IsAnswered workers past (Gave d answer) es = IsCall workers past (Finishes d) answer es

-- an entry: a call with its answer, and the events that it entered
pub record Entry : Type 0 where
  pub call : Answered
  pub events : List Event

-- the entry of these
abbrev pub entry : Answered → List Event → Entry
entry c es = record { call = c; events = es }

-- entries, each with the number of the pass that made the call
abbrev pub Record : Type 0
Record = Log Entry

-- the events of a record, entry after entry
abbrev pub events_of : Record → List Event
events_of log = flat_map (λ e. e.1.events) log

-- each entry's answer and events are those of the hall's call after the events before it
abbrev pub AreAnsweredFrom : ℕ → List Event → Record → Type 0
AreAnsweredFrom workers past [] = Unit {0}
AreAnsweredFrom workers past (e ∷ es) = IsAnswered workers past e.1.call e.1.events × AreAnsweredFrom workers (past ++ e.1.events) es

-- A legal record of a hall of so many workers: its events are a legal history, and each entry's answer and events are
-- those of the hall's call at that point.
pub record IsLegal (workers : ℕ) (log : Record) : Type 0 where
  pub history : Legal workers (events_of log)
  pub answers : AreAnsweredFrom workers [] log

-- a history is that of a legal record
abbrev pub StandsFor : ℕ → List Event → Record → Type 0
StandsFor workers history log = IsLegal workers log × (history ≡ events_of log)
