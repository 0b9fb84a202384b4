-- No call of the service moves a job.
use Rattle.std.proofs.Common.{◌≡◌, ℕ, true, false, List, [], ◌∷◌, ◌++◌, Option, Result, Ok, Err, refl, ap, ◌∙◌}
use Rattle.std.specs.List.{list_all, list_any}
use Rattle.std.proofs.lemmas.Bool.{and_parts, or_from}
use Rattle.std.proofs.lemmas.List.Folds.{list_any-append}
use Rattle.mal_base.specs.Asks.{Terms, Weighed}
use Rattle.mal_base.specs.declared.hall_fault.OpenFault.{OpenFault}
use Rattle.mal_base.specs.declared.hall_fault.OpenFault.TheVariants as opening
use Rattle.mal_base.specs.declared.hall_fault.ReviseFault.{ReviseFault}
use Rattle.mal_base.specs.declared.hall_fault.ReviseFault.TheVariants as revising
use Rattle.mal_base.specs.declared.hall_fault.ReaskFault.{ReaskFault}
use Rattle.mal_base.specs.declared.hall_fault.ReaskFault.TheVariants as reasking
use Rattle.mal_base.specs.declared.hall_fault.CloseFault.{CloseFault}
use Rattle.mal_base.specs.declared.hall_fault.CloseFault.TheVariants as closing
use Rattle.mal_base.specs.declared.hall_fault.PickFault.{PickFault}
use Rattle.mal_base.specs.declared.hall_fault.PickFault.TheVariants as picking
use Rattle.mal_base.specs.declared.hall_fault.ReplyFault.{ReplyFault}
use Rattle.mal_base.specs.declared.hall_fault.ReplyFault.TheVariants as asking
use Rattle.mal_revision.specs.Posted.{Posted}
use Rattle.spec_job.specs.KeyedJob.{Key}
use Rattle.spec_job.specs.Leased.{Finished}
use Rattle.spec_hall.specs.Calls.{Offer, Leased, Idle, AllDone, Return, Back, Strange, IsAsking, IsClosing, IsOpening, IsPicking, IsReasking, IsReturning, IsRevising, arranges}
use Rattle.spec_hall.specs.Events.{Event, Open, Revise, Reask, Close, Balance, Start, Finish, Exchange, Leave, Arrive, moves}
use Rattle.mal_service.specs.Record.{Answered, Opened, Revised, Reasked, Closed, Asked, Picked, Gave, AreAnsweredFrom, IsAnswered, Record, events_of}

-- what is due moves none
arranged-stays : (e : Event) → arranges e ≡ true → moves e ≡ false
arranged-stays (Open k ask) h = refl
arranged-stays (Revise k number r) h = refl
arranged-stays (Reask k weight) h = refl
arranged-stays (Close k) h = refl
arranged-stays (Balance shares) h = refl
arranged-stays (Start k index worker) h = refl
arranged-stays (Finish k index worker outcome) h = refl
arranged-stays (Exchange k) h = refl
arranged-stays (Leave k) h = absurd (cc)
arranged-stays (Arrive k brought) h = absurd (cc)

due-stay : (es : List Event) → list_all arranges es ≡ true → list_any moves es ≡ false
due-stay [] h = refl
due-stay (e ∷ es) h =
    let parts = and_parts (arranges e) (list_all arranges es) h in
    or_from (moves e) (list_any moves es) (arranged-stays e parts.0) (due-stay es parts.1)

nothing : (es : List Event) → es ≡ [] → list_any moves es ≡ false
nothing es e = ap (list_any moves) e

opening-stays : (past : List Event) (k : Key) (ask : Terms) (answer : Result (Unit {0}) OpenFault) (es : List Event) → IsOpening past k ask answer es → list_any moves es ≡ false
opening-stays past k ask (Ok done) es is = ap (list_any moves) is.1
opening-stays past k ask (Err opening.Duplicate) es is = nothing es is.1
opening-stays past k ask (Err opening.TenantFull) es is = nothing es is.2
opening-stays past k ask (Err opening.HallFull) es is = nothing es is.3
opening-stays past k ask (Err opening.OutOfMemory) es is = nothing es is.1

revising-stays : (past : List Event) (k : Key) (r : Posted) (answer : Result (Unit {0}) ReviseFault) (es : List Event) → IsRevising past k r answer es → list_any moves es ≡ false
revising-stays past k r (Ok done) es is = ap (list_any moves) is.2
revising-stays past k r (Err revising.NoJob) es is = nothing es is.1
revising-stays past k r (Err revising.Closed) es is = nothing es is.3
revising-stays past k r (Err revising.RevisionsFull) es is = nothing es is.4
revising-stays past k r (Err (revising.JobFull which)) es is = nothing es is.5
revising-stays past k r (Err revising.OutOfMemory) es is = nothing es is.2

reasking-stays : (past : List Event) (k : Key) (weight : Weighed) (answer : Result (Unit {0}) ReaskFault) (es : List Event) → IsReasking past k weight answer es → list_any moves es ≡ false
reasking-stays past k weight (Ok done) es is = ap (list_any moves) is.2
reasking-stays past k weight (Err reasking.NoJob) es is = nothing es is.1
reasking-stays past k weight (Err reasking.Closed) es is = nothing es is.3
reasking-stays past k weight (Err reasking.OutOfMemory) es is = nothing es is.2

closing-stays : (past : List Event) (k : Key) (answer : Result (Unit {0}) CloseFault) (es : List Event) → IsClosing past k answer es → list_any moves es ≡ false
closing-stays past k (Ok done) es is = ap (list_any moves) is.2
closing-stays past k (Err closing.NoJob) es is = nothing es is.1
closing-stays past k (Err closing.Closed) es is = nothing es is.3

asking-stays : (past : List Event) (k : Key) (r : ℕ) (answer : Result (Option (List ℕ)) ReplyFault) (es : List Event) → IsAsking past k r answer es → list_any moves es ≡ false
asking-stays past k r (Ok text) es is = nothing es is.3
asking-stays past k r (Err asking.NoJob) es is = nothing es is.1
asking-stays past k r (Err asking.OutOfMemory) es is = nothing es is.2

picking-stays : (w : ℕ) (past : List Event) (worker : ℕ) (answer : Result Offer PickFault) (es : List Event) → IsPicking w past worker answer es → list_any moves es ≡ false
picking-stays w past worker (Ok (Leased l)) es is =
    ap (list_any moves) is.events
    ∙ (list_any-append moves is.due (Start is.key is.index worker ∷ []) ∙ or_from (list_any moves is.due) false (due-stay is.due is.first.kinds) refl)
picking-stays w past worker (Ok Idle) es is = due-stay es is.due.kinds
picking-stays w past worker (Ok AllDone) es is = nothing es is.1
picking-stays w past worker (Err picking.Busy) es is = nothing es is.1
picking-stays w past worker (Err picking.OutOfMemory) es is = due-stay es is.due.kinds

returning-stays : (past : List Event) (d : Finished) (answer : Return) (es : List Event) → IsReturning past d answer es → list_any moves es ≡ false
returning-stays past d Back es is = ap (list_any moves) is.2
returning-stays past d (Strange kept) es is = nothing es is.2

-- no call enters a leave or an arrival
answered-stays : (w : ℕ) (past : List Event) (c : Answered) (es : List Event) → IsAnswered w past c es → list_any moves es ≡ false
answered-stays w past (Opened k ask answer) es call = opening-stays past k ask answer es call
answered-stays w past (Revised k r answer) es call = revising-stays past k r answer es call
answered-stays w past (Reasked k weight answer) es call = reasking-stays past k weight answer es call
answered-stays w past (Closed k answer) es call = closing-stays past k answer es call
answered-stays w past (Asked k r answer) es call = asking-stays past k r answer es call
answered-stays w past (Picked worker answer) es call = picking-stays w past worker answer es call
answered-stays w past (Gave d answer) es call = returning-stays past d answer es call

-- so no job moves in a record
pub answers-stay : (w : ℕ) (past : List Event) (log : Record) → AreAnsweredFrom w past log → list_any moves (events_of log) ≡ false
answers-stay w past [] calls = refl
answers-stay w past (e ∷ log) calls =
    list_any-append moves e.1.events (events_of log)
    ∙ or_from (list_any moves e.1.events) (list_any moves (events_of log)) (answered-stays w past e.1.call e.1.events calls.0) (answers-stay w (past ++ e.1.events) log calls.1)
