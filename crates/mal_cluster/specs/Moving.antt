-- A job that goes from one hall to another.
use Rattle.std.specs.Prelude.{◌≡◌, ◌⊎◌, ◌≢◌, ℕ, ◌+◌, ◌<◌, ◌≤◌, All, List, [], ◌∷◌, ◌++◌, length, slice_set, Result, Ok, Err}
use Rattle.mal_base.specs.declared.hall_fault.AdmitFault.{AdmitFault}
use Rattle.mal_base.specs.declared.hall_fault.AdmitFault.TheVariants as admitting
use Rattle.mal_hall.specs.HallView.{HallView}
use Rattle.spec_job.specs.KeyedJob.{Key, KeyedJob}
use Rattle.spec_hall.specs.Calls.{MayCome}
use Rattle.spec_hall.specs.Events.{Event, Leave, Arrive}
use Rattle.spec_hall.specs.Legal.{Legal, MayArrive, MayLeave}
use Rattle.spec_hall.specs.Own.{brought_by}
use Rattle.spec_cluster.specs.declared.fault.MoveFault.{MoveFault}
use Rattle.spec_cluster.specs.declared.fault.MoveFault.TheVariants as moving
use Rattle.spec_cluster.specs.Visits.{hall_at}
use Rattle.mal_cluster.specs.Kept.{histories}

-- the place of the hall of a number, counted from 1, among so many, where a job in the hall at a place may ask to go
abbrev pub IsPlaced : ℕ → ℕ → ℕ → Result ℕ MoveFault → Type 0
IsPlaced halls from to (Ok at) = (to ≡ at + 1) × (at < halls) × (at ≢ from)
IsPlaced halls from to (Err moving.NoHall) = (to ≡ 0) ⊎ (halls < to)
IsPlaced halls from to (Err moving.Same) = to ≡ from + 1
IsPlaced halls from to (Err fault) = ⊥

-- a job of the hall at one place, whose history is legal, may leave it, and has room in that at another
pub record MayHand (halls : List HallView) (k : Key) (from to : ℕ) : Type 0 where
  pub here : from < length halls
  pub there : to < length halls
  pub other : to ≢ from
  pub workers : ℕ
  pub some_worker : 1 ≤ workers
  pub worker_bound : workers ≤ 64
  pub legal : Legal workers (hall_at (histories halls) from)
  pub leaves : (t : KeyedJob) × MayLeave (hall_at (histories halls) from) k t
  pub comes : MayCome (hall_at (histories halls) to) k

-- the histories after its leave there and its arrival here
abbrev pub handed : Key → ℕ → ℕ → List (List Event) → List (List Event)
handed k from to hs = slice_set (slice_set hs from (hall_at hs from ++ Leave k ∷ [])) to (hall_at hs to ++ Arrive k (brought_by k (hall_at hs from)) ∷ [])

-- it was handed over, as it may be
pub record HasHanded (before : List HallView) (k : Key) (from to : ℕ) (after : List HallView) : Type 0 where
  pub arrives : MayArrive (hall_at (histories before) to) k (brought_by k (hall_at (histories before) from))
  pub went : histories after ≡ handed k from to (histories before)

-- the halls have as many workers as before
abbrev pub SameWorkers : List HallView → List HallView → Type 0
SameWorkers before after = (w : ℕ) → All (λ h. h.workers ≡ w) before → All (λ h. h.workers ≡ w) after

-- how a move is refused where a hall has no room for the job
abbrev pub refusal_of : AdmitFault → MoveFault
refusal_of admitting.Present = moving.Same
refusal_of admitting.TenantFull = moving.TenantFull
refusal_of admitting.HallFull = moving.HallFull
refusal_of admitting.OutOfMemory = moving.OutOfMemory
