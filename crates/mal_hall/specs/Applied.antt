-- A hall that enters the events of a history.
use Rattle.std.specs.Prelude.{◌≡◌, ℕ, suc, ◌-◌, ◌<◌, List, [], ◌∷◌, ◌++◌, length, get_or, slice_get, Option, Some, None}
use Rattle.std.specs.Option.{option_map, option_map_or}
use Rattle.mal_base.specs.declared.verdict.Outcome.{Outcome}
use Rattle.mal_base.specs.declared.verdict.Outcome.TheVariants.{Starved}
use Rattle.mal_hall.specs.HallView.{HallView}
use Rattle.mal_hall.specs.Offered.{handed_of}
use Rattle.mal_history.specs.declared.event.Event as written
use Rattle.mal_history.specs.declared.event.Event.TheVariants as of
use Rattle.mal_history.specs.declared.event.Share.{Share}
use Rattle.mal_job.specs.Finishing.{outcome_of}
use Rattle.mal_revision.specs.Posted.{Posted}
use Rattle.mal_suspend.specs.Kept.{finished}
use Rattle.mal_suspend.specs.declared.kept.Kept.{Kept}
use Rattle.spec_hall.specs.Calls.{handed}
use Rattle.spec_hall.specs.Events.{Event, Start}
use Rattle.spec_hall.specs.Given.{given}
use Rattle.spec_hall.specs.Legal.{Allowed}
use Rattle.spec_hall.specs.States.{LeaseOut, keys_of, lease_of, leases}
use Rattle.spec_job.specs.Leased.{Becomes, Finished, Leased}
use Rattle.spec_job.specs.KeyedJob.{Key}

-- the leases that are out are those that are kept inside the hall, each as it was handed out: no worker has one
pub record IsInside (h : HallView) : Type 0 where
  pub count : length h.inside ≡ h.workers
  pub each : (n : ℕ) → n < h.workers → get_or h.inside n None ≡ option_map (handed h.events) (lease_of (suc n) (leases h.events))

-- an event was allowed after the past, and was entered
pub record HasEntered (workers : ℕ) (past : List Event) (event : Event) (now : List Event) : Type 0 where
  pub allowed : Allowed workers past event
  pub grown : now ≡ past ++ event ∷ []

-- so a hall whose leases are inside has entered it, and they are inside again
pub record Enters (before : HallView) (event : Event) (after : HallView) : Type 0 where
  pub workers : after.workers ≡ before.workers
  pub entered : HasEntered before.workers before.events event after.events
  pub inside : IsInside after

-- the event may not come after those of the hall
abbrev pub MayNotEnter : HallView → Event → Type 0
MayNotEnter before event = Allowed before.workers before.events event → ⊥

-- so was the event that was written down, with what was given as posted
pub record HasApplied (workers : ℕ) (past : List Event) (posted : Option Posted) (line : written.Event) (now : List Event) : Type 0 where
  pub event : Event
  pub given_is : given posted line ≡ Some event
  pub entered : HasEntered workers past event now

-- it is not allowed: there is no such event, or it may not come after the past
abbrev pub IsRefused : ℕ → List Event → Option Posted → written.Event → Type 0
IsRefused workers past posted line = (e : Event) → given posted line ≡ Some e → Allowed workers past e → ⊥

-- the job at a place may start this node of it
pub record StartsAt (workers : ℕ) (past : List Event) (k : Key) (index worker at : ℕ) : Type 0 where
  pub place : slice_get (keys_of past) at ≡ Some k
  pub allowed : Allowed workers past (Start k index worker)

-- what comes of a lease that is worked, or given back as it was
abbrev pub ComesOf : Leased → Option Finished → Type 0
ComesOf l None = Unit {0}
ComesOf l (Some d) = (d.worker ≡ l.worker) × Becomes d.outcome l d

-- what comes of a lease whose start ended so
pub record IsBackOf (l : Leased) (outcome : Outcome) (back : Option Finished) : Type 0 where
  pub outcome_is : outcome_of back ≡ outcome
  pub comes : ComesOf l back

-- a lease that is kept inside is that of a worker, as it was handed out
pub record IsLodged (past : List Event) (worker : ℕ) (l : Leased) : Type 0 where
  pub held : LeaseOut
  pub worker_is : held.worker ≡ worker
  pub out : lease_of held.worker (leases past) ≡ Some held
  pub handed_is : handed_of l ≡ handed past held

-- what comes of a lease that ran out of memory, of which this is kept of the node
abbrev pub unrun : ℕ → Kept → Finished
unrun worker kept = finished worker Starved kept [] None []

-- the volumes that an event lists, where it is a balancing
abbrev pub listed_in : written.Event → Option (List Share)
listed_in (of.Balance volumes) = Some volumes
listed_in other = None

-- the volumes that the last event lists
abbrev pub listed_last : List written.Event → Option (List Share)
listed_last events = option_map_or listed_in (slice_get events (length events - 1)) None
