-- The calls of a cluster: each leads from one to another, with its answer.
use Rattle.std.specs.Prelude.{◌≡◌, ◌⊎◌, ◌≢◌, ℕ, ◌+◌, ◌-◌, ◌<◌, ◌≤◌, true, false, List, [], ◌∷◌, ◌++◌, length, slice_set, Option, Some, None, is_some, Result, Ok, Err}
use Rattle.mal_base.specs.Limits.{limits}
use Rattle.mal_base.specs.Asks.{Terms, Weighed}
use Rattle.mal_base.specs.declared.hall_fault.OpenFault.{OpenFault}
use Rattle.mal_base.specs.declared.hall_fault.OpenFault.TheVariants as opening
use Rattle.mal_base.specs.declared.hall_fault.ReviseFault.{ReviseFault}
use Rattle.mal_base.specs.declared.hall_fault.ReviseFault.TheVariants as revising
use Rattle.mal_base.specs.declared.hall_fault.ReaskFault.{ReaskFault}
use Rattle.mal_base.specs.declared.hall_fault.ReaskFault.TheVariants as reasking
use Rattle.mal_base.specs.declared.hall_fault.CloseFault.{CloseFault}
use Rattle.mal_base.specs.declared.hall_fault.CloseFault.TheVariants as closing
use Rattle.mal_base.specs.declared.hall_fault.ReplyFault.{ReplyFault}
use Rattle.mal_base.specs.declared.hall_fault.ReplyFault.TheVariants as asking
use Rattle.mal_revision.specs.Posted.{Posted}
use Rattle.spec_job.specs.KeyedJob.{Key}
use Rattle.spec_job.specs.Replies.{reply}
use Rattle.spec_job.specs.SoloMachine.{solo}
use Rattle.spec_hall.specs.Calls.{Call, AnswerTo, HasCalled, Opens, Revises, Reasks, Closes}
use Rattle.spec_hall.specs.Events.{Event, Leave, Arrive}
use Rattle.spec_hall.specs.Legal.{MayArrive, jobs_of, tenant_count}
use Rattle.spec_hall.specs.Own.{brought_by}
use Rattle.spec_hall.specs.States.{names_of}
use Rattle.spec_cluster.specs.declared.fault.MoveFault.{MoveFault}
use Rattle.spec_cluster.specs.declared.fault.MoveFault.TheVariants as moving
use Rattle.spec_cluster.specs.Clusters.{Cluster, with_hall, is_named, is_had, home}
use Rattle.spec_cluster.specs.Visits.{hall_at, all_of}

-- a call of the hall at a place has brought one cluster from another: all else is as before
pub record HasCalledAt (c : Cluster) (n : ℕ) (call : Call) (answer : AnswerTo call) (after : Cluster) : Type 0 where
  pub now : List Event
  pub called : HasCalled c.workers (hall_at c.halls n) call answer now
  pub kept : after ≡ with_hall c n now

-- a job whose name some hall ever had is not opened, and nothing changed
pub record IsDuplicate (c : Cluster) (k : Key) (answer : Result (Unit {0}) OpenFault) (after : Cluster) : Type 0 where
  pub had : is_had k c.halls ≡ true
  pub refused : answer ≡ Err opening.Duplicate
  pub kept : after ≡ c

-- a job whose name no hall ever had is opened by the call of a hall
pub record IsOpenedAt (c : Cluster) (n : ℕ) (k : Key) (ask : Terms) (answer : Result (Unit {0}) OpenFault) (after : Cluster) : Type 0 where
  pub fresh : is_had k c.halls ≡ false
  pub called : HasCalledAt c n (Opens k ask) answer after

-- a job is opened in the hall at a place
abbrev pub IsOpening : Cluster → ℕ → Key → Terms → Result (Unit {0}) OpenFault → Cluster → Type 0
IsOpening c n k ask answer after = IsDuplicate c k answer after ⊎ IsOpenedAt c n k ask answer after

-- a call of the hall that has a job; where none has it this is answered, and nothing changed
abbrev pub IsCallAt : Cluster → Option ℕ → (call : Call) → AnswerTo call → AnswerTo call → Cluster → Type 0
IsCallAt c None call absent answer after = (answer ≡ absent) × (after ≡ c)
IsCallAt c (Some n) call absent answer after = HasCalledAt c n call answer after

-- the next revision of a job is posted in the hall that has it
abbrev pub IsRevising : Cluster → Key → Posted → Result (Unit {0}) ReviseFault → Cluster → Type 0
IsRevising c k r answer after = IsCallAt c (home k c.halls) (Revises k r) (Err revising.NoJob) answer after

-- a job's ask changes in the hall that has it
abbrev pub IsReasking : Cluster → Key → Weighed → Result (Unit {0}) ReaskFault → Cluster → Type 0
IsReasking c k w answer after = IsCallAt c (home k c.halls) (Reasks k w) (Err reasking.NoJob) answer after

-- a job is closed in the hall that has it
abbrev pub IsClosing : Cluster → Key → Result (Unit {0}) CloseFault → Cluster → Type 0
IsClosing c k answer after = IsCallAt c (home k c.halls) (Closes k) (Err closing.NoJob) answer after

-- the reply to a revision is that of the job's machine, run alone on all that it did
abbrev pub IsReply : Cluster → Key → ℕ → Result (Option (List ℕ)) ReplyFault → Type 0
IsReply c k r (Ok text) = (is_some (home k c.halls) ≡ true) × (text ≡ reply k r (solo (all_of k c.halls c.moves)))
IsReply c k r (Err asking.NoJob) = home k c.halls ≡ None
IsReply c k r (Err asking.OutOfMemory) = is_some (home k c.halls) ≡ true

-- the cluster after a job went from one hall to another
abbrev pub went : Key → ℕ → ℕ → Cluster → Cluster
went k from to c =
    let here = hall_at c.halls from in
    let there = hall_at c.halls to in
    record c {
      halls = slice_set (slice_set c.halls from (here ++ Leave k ∷ [])) to (there ++ Arrive k (brought_by k here) ∷ []);
      moves = c.moves ++ record { key = k; visit = record { hall = to; from = length there + 1 } } ∷ [];
    }

-- a job that one hall has may be asked to go to another of these; halls are numbered from 1 here
pub record MayTry (c : Cluster) (k : Key) (to from : ℕ) : Type 0 where
  pub there : home k c.halls ≡ Some from
  pub low : 1 ≤ to
  pub high : to ≤ length c.halls
  pub other : to ≢ from + 1

-- a job goes from the hall at a place to that of a number
pub record IsMove (c : Cluster) (k : Key) (to from : ℕ) (after : Cluster) : Type 0 where
  pub may : MayTry c k to from
  pub arrives : MayArrive (hall_at c.halls (to - 1)) k (brought_by k (hall_at c.halls from))
  pub went_on : after ≡ went k from (to - 1) c

-- a job may go there, as far as the halls are concerned
pub record MayMove (c : Cluster) (k : Key) (to from : ℕ) : Type 0 where
  pub may : MayTry c k to from
  pub arrives : MayArrive (hall_at c.halls (to - 1)) k (brought_by k (hall_at c.halls from))

-- its name is new there, and its tenant has 64 jobs there
pub record IsTenantFull (c : Cluster) (k : Key) (to from : ℕ) : Type 0 where
  pub may : MayTry c k to from
  pub fresh : is_named k (hall_at c.halls (to - 1)) ≡ false
  pub full : limits.jobs_of_tenant ≤ jobs_of k.tenant (names_of (hall_at c.halls (to - 1)))

-- its tenant is new there, and 64 others are there
pub record IsHallFull (c : Cluster) (k : Key) (to from : ℕ) : Type 0 where
  pub may : MayTry c k to from
  pub none : jobs_of k.tenant (names_of (hall_at c.halls (to - 1))) ≡ 0
  pub full : limits.tenants ≤ tenant_count (names_of (hall_at c.halls (to - 1)))

-- a job goes to the hall of a number, or that is refused and nothing changed: no hall has the job, there is no such
-- hall, the job is in it, its name is new there and has no room, or memory ran out for what may be
abbrev pub IsMoving : Cluster → Key → ℕ → Result (Unit {0}) MoveFault → Cluster → Type 0
IsMoving c k to (Ok done) after = (from : ℕ) × IsMove c k to from after
IsMoving c k to (Err moving.NoJob) after = (home k c.halls ≡ None) × (after ≡ c)
IsMoving c k to (Err moving.NoHall) after = (is_some (home k c.halls) ≡ true) × ((to ≡ 0) ⊎ (length c.halls < to)) × (after ≡ c)
IsMoving c k to (Err moving.Same) after = (from : ℕ) × (home k c.halls ≡ Some from) × (to ≡ from + 1) × (after ≡ c)
IsMoving c k to (Err moving.TenantFull) after = (from : ℕ) × IsTenantFull c k to from × (after ≡ c)
IsMoving c k to (Err moving.HallFull) after = (from : ℕ) × IsHallFull c k to from × (after ≡ c)
IsMoving c k to (Err moving.OutOfMemory) after = (from : ℕ) × MayMove c k to from × (after ≡ c)
