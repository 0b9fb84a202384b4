use Rattle.std.specs.Prelude.{◌≡◌, ℕ, List, [], ◌∷◌, ◌++◌, slice_get, Option, Some, None, Result, Ok, Err, Vec}
use Rattle.std.specs.declared.alloc.Global.{Global}
use Rattle.mal_history.specs.declared.event.Share.{Share}
use Rattle.mal_hall.specs.declared.offer.Pick.{Pick}
use Rattle.mal_hall.specs.declared.offer.Pick.TheVariants as pick
use Rattle.mal_hall.specs.declared.offer.Back.{Back}
use Rattle.mal_hall.specs.declared.offer.Strange.{Strange}
use Rattle.spec_job.specs.Leased.{Leased, Finished}
use Rattle.spec_job.specs.KeyedJob.{Key, KeyedJob}
use Rattle.mal_base.specs.declared.hall_fault.PickFault.{PickFault}
use Rattle.mal_base.specs.declared.hall_fault.ReplyFault.{ReplyFault}
use Rattle.spec_hall.specs.Calls as calls
use Rattle.spec_hall.specs.Events.{Event, Balance, Start, Finish, Exchange}
use Rattle.spec_hall.specs.Legal.{Allowed}
use Rattle.spec_hall.specs.States.{LeaseOut, keys_of, states, leases, lease_of, exchange_due}
use Rattle.mal_base.specs.declared.verdict.Outcome.{Outcome}

-- a lease as it is handed out
abbrev pub handed_of : Leased → calls.Handed
handed_of l = record { journal = l.journal; adds = l.adds; worker = l.worker }

-- the answer to a pick
abbrev pub offered : Result Pick PickFault → Result calls.Offer PickFault
offered (Ok (pick.Leased l)) = Ok (calls.Leased (handed_of l))
offered (Ok pick.Idle) = Ok calls.Idle
offered (Ok pick.AllDone) = Ok calls.AllDone
offered (Err fault) = Err fault

-- the answer to what came of a lease
abbrev pub returned : Result Back Strange → calls.Return
returned (Ok back) = calls.Back
returned (Err s) = calls.Strange s.kept

-- the answer to who asks for a reply
abbrev pub replied : Result (Option (Vec ℕ Global)) ReplyFault → Result (Option (List ℕ)) ReplyFault
replied (Ok (Some text)) = Ok (Some text.items)
replied (Ok None) = Ok None
replied (Err fault) = Err fault

-- a balancing was entered
pub record HasBalanced (workers : ℕ) (past now : List Event) : Type 0 where
  pub shares : List Share
  pub grown : now ≡ past ++ Balance shares ∷ []
  pub allowed : Allowed workers past (Balance shares)

-- the first job of which an exchange is due has this place
pub record IsFirst (past : List Event) (at : ℕ) : Type 0 where
  pub job : KeyedJob
  pub first : exchange_due (states past) ≡ Some job
  pub place : slice_get (states past) at ≡ Some job

-- an exchange was entered
pub record HasExchanged (workers : ℕ) (past now : List Event) : Type 0 where
  pub key : Key
  pub grown : now ≡ past ++ Exchange key ∷ []
  pub allowed : Allowed workers past (Exchange key)

-- this node of the job at a place may be started by a worker
pub record MayStartAt (workers : ℕ) (past : List Event) (at index worker : ℕ) : Type 0 where
  pub key : Key
  pub place : slice_get (keys_of past) at ≡ Some key
  pub allowed : Allowed workers past (Start key index worker)

-- it was started, and this is its lease
pub record HasStarted (workers : ℕ) (past now : List Event) (index worker : ℕ) (lease : Leased) : Type 0 where
  pub key : Key
  pub grown : now ≡ past ++ Start key index worker ∷ []
  pub allowed : Allowed workers past (Start key index worker)
  pub lease_is : handed_of lease ≡ calls.handed now (record { worker = worker; key = key; index = index })

-- what came back, if anything did, is that of a lease
abbrev pub Belongs : List Event → LeaseOut → Option Finished → Type 0
Belongs past l None = lease_of l.worker (leases past) ≡ Some l
Belongs past l (Some d) = (d.worker ≡ l.worker) × calls.IsOfLease past d l

-- the lease of a worker may end so
pub record MayEnd (past : List Event) (worker : ℕ) (back : Option Finished) : Type 0 where
  pub lease : LeaseOut
  pub worker_is : lease.worker ≡ worker
  pub belongs : Belongs past lease back

-- the lease of a worker has ended
pub record HasEnded (past now : List Event) (worker : ℕ) (outcome : Outcome) : Type 0 where
  pub lease : LeaseOut
  pub out : lease_of worker (leases past) ≡ Some lease
  pub grown : now ≡ past ++ Finish lease.key lease.index worker outcome ∷ []

-- some of what was due was entered
pub record HasArranged (workers : ℕ) (past now : List Event) : Type 0 where
  pub events : List Event
  pub grown : now ≡ past ++ events
  pub due : calls.AreDue workers past events
