-- A closed service lost no lease, and a lease that is picked is its worker's.
use Rattle.std.proofs.Common.{◌≡◌, ℕ, List, ap, subst, sym, Result, Ok, Err}
use Rattle.mal_base.specs.declared.hall_fault.PickFault.{PickFault}
use Rattle.mal_hall.specs.Desks.{IsOwn}
use Rattle.mal_service.proofs.LossLemmas.{record-loses-none}
use Rattle.mal_service.specs.Passes.{LeavesHall}
use Rattle.mal_service.specs.Record.{Entry}
use Rattle.mal_turn.specs.declared.view.View.{View}
use Rattle.spec_hall.specs.Calls as calls
use Rattle.spec_hall.specs.Calls.{Offer, Leased, Idle, AllDone, IsPicking}
use Rattle.spec_hall.specs.Events.{Event}
use Rattle.spec_run.specs.Losses.{NoneIsLost}

-- the hall of a closed service lost none
pub left_loses_none : (w : ℕ) (h : List Event) (v : View Entry) → LeavesHall w h v → NoneIsLost h
left_loses_none w h v left = subst NoneIsLost (sym left.value.1) (record-loses-none w left.log left.value.0)

-- a lease that is picked is its worker's
pub picked_own : (w : ℕ) (past : List Event) (worker : ℕ) (answer : Result Offer PickFault) (es : List Event) → IsPicking w past worker answer es → IsOwn worker answer
picked_own w past worker (Ok (Leased l)) es is = ap (λ (h : calls.Handed). h.worker) is.lease_is
picked_own w past worker (Ok Idle) es is = tt
picked_own w past worker (Ok AllDone) es is = tt
picked_own w past worker (Err fault) es is = tt
