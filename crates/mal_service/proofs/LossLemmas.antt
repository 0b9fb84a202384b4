-- The calls of a service lose no lease.
use Rattle.std.proofs.Common.{◌≡◌, ℕ, Bool, true, false, ◌||◌, ◌&&◌, List, [], ◌∷◌, ◌++◌, refl, sym, ◌∙◌, ap, subst, Result, Ok, Err}
use Rattle.std.specs.List.{list_all, list_any}
use Rattle.mal_base.specs.declared.verdict.Outcome.{Outcome}
use Rattle.mal_base.specs.declared.verdict.Outcome.TheVariants.{Ran, Starved, Lost}
use Rattle.mal_service.specs.Laws.{RecordsLoseNone}
use Rattle.mal_service.specs.Record.{Answered, Opened, Revised, Reasked, Closed, Asked, Picked, Gave, AreAnsweredFrom, Entry, IsAnswered, Record, events_of}
use Rattle.spec_job.specs.Journal.{JournalEntry}
use Rattle.spec_job.specs.Journaled.{Journaled}
use Rattle.spec_job.specs.Leased.{Finished}
use Rattle.spec_job.specs.Viewed.{IsGrownBy}
use Rattle.mal_base.specs.declared.hall_fault.OpenFault.{OpenFault}
use Rattle.mal_base.specs.declared.hall_fault.OpenFault.TheVariants as opening
use Rattle.mal_base.specs.declared.hall_fault.ReviseFault.{ReviseFault}
use Rattle.mal_base.specs.declared.hall_fault.ReviseFault.TheVariants as revising
use Rattle.mal_base.specs.declared.hall_fault.ReaskFault.{ReaskFault}
use Rattle.mal_base.specs.declared.hall_fault.ReaskFault.TheVariants as reasking
use Rattle.mal_base.specs.declared.hall_fault.CloseFault.{CloseFault}
use Rattle.mal_base.specs.declared.hall_fault.CloseFault.TheVariants as closing
use Rattle.mal_base.specs.declared.hall_fault.ReplyFault.TheVariants as asking
use Rattle.mal_base.specs.declared.hall_fault.PickFault.{PickFault}
use Rattle.mal_base.specs.declared.hall_fault.PickFault.TheVariants as picking
use Rattle.spec_hall.specs.Calls as calls
use Rattle.spec_hall.specs.Calls.{Offer, Leased, Idle, AllDone, Return, IsOpening, IsRevising, IsReasking, IsClosing, IsPicking, IsReturning, AreDue, arranges}
use Rattle.spec_hall.specs.Driven.{was_lost}
use Rattle.spec_hall.specs.Events.{Event, Open, Revise, Reask, Close, Balance, Start, Finish, Exchange, Leave, Arrive}
use Rattle.spec_run.specs.Losses.{is_loss, NoneIsLost}
use Rattle.spec_run.proofs.LossLemmas.{parts-lose-none}

-- what is due loses none
arranged-loses : (e : Event) → arranges e ≡ true → is_loss e ≡ false
arranged-loses (Open k ask) h = refl
arranged-loses (Revise k number r) h = refl
arranged-loses (Reask k weight) h = refl
arranged-loses (Close k) h = refl
arranged-loses (Balance shares) h = refl
arranged-loses (Start k index worker) h = refl
arranged-loses (Finish k index worker outcome) h = absurd (cc)
arranged-loses (Exchange k) h = refl
arranged-loses (Leave k) h = refl
arranged-loses (Arrive k brought) h = refl

due-lose-none : (es : List Event) → list_all arranges es ≡ true → NoneIsLost es
due-lose-none [] h = refl
due-lose-none (e ∷ es) h = by_test (arranges e) refl h (due-lose-none es)
  where
    by_test : (b : Bool) → arranges e ≡ b → (b && list_all arranges es) ≡ true → (list_all arranges es ≡ true → list_any is_loss es ≡ false) → (is_loss e || list_any is_loss es) ≡ false
    by_test true is h rest = rw (arranged-loses e is) (rest h)
    by_test false is h rest = absurd (cc)

nothing : (es : List Event) → es ≡ [] → NoneIsLost es
nothing es e = ap (list_any is_loss) e

picking-loses : (w : ℕ) (past : List Event) (worker : ℕ) (answer : Result Offer PickFault) (es : List Event) → IsPicking w past worker answer es → NoneIsLost es
picking-loses w past worker (Ok (Leased l)) es is = ap (list_any is_loss) is.events ∙ parts-lose-none is.due (Start is.key is.index worker ∷ []) (due-lose-none is.due is.first.kinds) refl
picking-loses w past worker (Ok Idle) es is = due-lose-none es is.due.kinds
picking-loses w past worker (Ok AllDone) es is = nothing es is.1
picking-loses w past worker (Err picking.Busy) es is = nothing es is.1
picking-loses w past worker (Err picking.OutOfMemory) es is = due-lose-none es is.due.kinds

grown-not-lost : (o : Outcome) (adds : List JournalEntry) (j back : Journaled) → IsGrownBy o adds j back → was_lost o ≡ false
grown-not-lost Ran adds j back is = refl
grown-not-lost Starved adds j back is = refl
grown-not-lost Lost adds j back is = absurd is

returning-loses : (past : List Event) (d : Finished) (answer : Return) (es : List Event) → IsReturning past d answer es → NoneIsLost es
returning-loses past d calls.Back es is = ap (list_any is_loss) is.2 ∙ rw (grown-not-lost d.outcome _ _ _ is.1.journal) refl
returning-loses past d (calls.Strange kept) es is = nothing es is.2

opening-loses : (past : List Event) (k : _) (ask : _) (answer : Result (Unit {0}) OpenFault) (es : List Event) → IsOpening past k ask answer es → NoneIsLost es
opening-loses past k ask (Ok done) es is = ap (list_any is_loss) is.1
opening-loses past k ask (Err opening.Duplicate) es is = nothing es is.1
opening-loses past k ask (Err opening.TenantFull) es is = nothing es is.2
opening-loses past k ask (Err opening.HallFull) es is = nothing es is.3
opening-loses past k ask (Err opening.OutOfMemory) es is = nothing es is.1

revising-loses : (past : List Event) (k : _) (r : _) (answer : Result (Unit {0}) ReviseFault) (es : List Event) → IsRevising past k r answer es → NoneIsLost es
revising-loses past k r (Ok done) es is = ap (list_any is_loss) is.2
revising-loses past k r (Err revising.NoJob) es is = nothing es is.1
revising-loses past k r (Err revising.Closed) es is = nothing es is.3
revising-loses past k r (Err revising.RevisionsFull) es is = nothing es is.4
revising-loses past k r (Err (revising.JobFull which)) es is = nothing es is.5
revising-loses past k r (Err revising.OutOfMemory) es is = nothing es is.2

reasking-loses : (past : List Event) (k : _) (weight : _) (answer : Result (Unit {0}) ReaskFault) (es : List Event) → IsReasking past k weight answer es → NoneIsLost es
reasking-loses past k weight (Ok done) es is = ap (list_any is_loss) is.2
reasking-loses past k weight (Err reasking.NoJob) es is = nothing es is.1
reasking-loses past k weight (Err reasking.Closed) es is = nothing es is.3
reasking-loses past k weight (Err reasking.OutOfMemory) es is = nothing es is.2

closing-loses : (past : List Event) (k : _) (answer : Result (Unit {0}) CloseFault) (es : List Event) → IsClosing past k answer es → NoneIsLost es
closing-loses past k (Ok done) es is = ap (list_any is_loss) is.2
closing-loses past k (Err closing.NoJob) es is = nothing es is.1
closing-loses past k (Err closing.Closed) es is = nothing es is.3

answered-loses-none : (w : ℕ) (past : List Event) (c : Answered) (es : List Event) → IsAnswered w past c es → NoneIsLost es
answered-loses-none w past (Opened k ask answer) es call = opening-loses past k ask answer es call
answered-loses-none w past (Revised k r answer) es call = revising-loses past k r answer es call
answered-loses-none w past (Reasked k weight answer) es call = reasking-loses past k weight answer es call
answered-loses-none w past (Closed k answer) es call = closing-loses past k answer es call
answered-loses-none w past (Asked k r (Ok text)) es call = nothing es call.3
answered-loses-none w past (Asked k r (Err asking.NoJob)) es call = nothing es call.1
answered-loses-none w past (Asked k r (Err asking.OutOfMemory)) es call = nothing es call.2
answered-loses-none w past (Picked worker answer) es call = picking-loses w past worker answer es call
answered-loses-none w past (Gave d answer) es call = returning-loses past d answer es call

answers-lose-none : (w : ℕ) (past : List Event) (log : Record) → AreAnsweredFrom w past log → NoneIsLost (events_of log)
answers-lose-none w past [] calls = refl
answers-lose-none w past (e ∷ es) calls = parts-lose-none e.1.events (events_of es) (answered-loses-none w past e.1.call e.1.events calls.0) (answers-lose-none w (past ++ e.1.events) es calls.1)

pub record-loses-none : RecordsLoseNone
record-loses-none w log legal = answers-lose-none w [] log legal.answers
