use Rattle.std.specs.Prelude.{◌≡◌, ℕ, ◌+◌, ◌<◌, ◌≤◌, Bool, true, false, ◌&&◌, ◌==◌, List, [], ◌∷◌, ◌++◌, length, find, flat_map, Option, Some, None, is_some, Result, Ok, Err}
use Rattle.std.specs.Option.{option_map_or, option_map}
use Rattle.std.specs.List.{list_all, list_any}
use Rattle.mal_base.specs.Limits.{limits}
use Rattle.mal_base.specs.Asks.{Terms, Weighed}
use Rattle.mal_base.specs.declared.verdict.Outcome.TheVariants.{Lost}
use Rattle.mal_revision.specs.Posted.{Posted}
use Rattle.spec_node.specs.Load.{counted}
use Rattle.spec_job.specs.Journal.{JournalEntry}
use Rattle.spec_job.specs.Journaled.{Journaled}
use Rattle.spec_job.specs.Leased.{Finished}
use Rattle.spec_job.specs.Replies.{reply}
use Rattle.spec_job.specs.KeyedJob.{Key, KeyedJob}
use Rattle.spec_job.specs.SoloMachine.{Own, SoloMachine, place_at}
use Rattle.spec_job.specs.Viewed.{IsGrownBy}
use Rattle.mal_base.specs.declared.hall_fault.OpenFault.{OpenFault}
use Rattle.mal_base.specs.declared.hall_fault.OpenFault.TheVariants as opening
use Rattle.mal_base.specs.declared.hall_fault.ReviseFault.{ReviseFault}
use Rattle.mal_base.specs.declared.hall_fault.ReviseFault.TheVariants as revising
use Rattle.mal_base.specs.declared.hall_fault.ReaskFault.{ReaskFault}
use Rattle.mal_base.specs.declared.hall_fault.ReaskFault.TheVariants as reasking
use Rattle.mal_base.specs.declared.hall_fault.CloseFault.{CloseFault}
use Rattle.mal_base.specs.declared.hall_fault.CloseFault.TheVariants as closing
use Rattle.mal_base.specs.declared.hall_fault.PickFault.{PickFault}
use Rattle.mal_base.specs.declared.hall_fault.PickFault.TheVariants as picking
use Rattle.mal_base.specs.declared.hall_fault.ReplyFault.{ReplyFault}
use Rattle.mal_base.specs.declared.hall_fault.ReplyFault.TheVariants as asking
use Rattle.mal_base.specs.declared.hall_fault.PackFault.{PackFault}
use Rattle.mal_base.specs.declared.hall_fault.PackFault.TheVariants as packing
use Rattle.mal_base.specs.declared.hall_fault.AdmitFault.{AdmitFault}
use Rattle.mal_base.specs.declared.hall_fault.AdmitFault.TheVariants as admitting
use Rattle.spec_hall.specs.Driven.{IsIdle, is_done}
use Rattle.spec_hall.specs.Events.{Event, Open, Revise, Reask, Close, Balance, Start, Finish, Exchange, Leave, Arrive}
use Rattle.spec_hall.specs.Leases.{lease_journal, lease_adds, start_number}
use Rattle.spec_hall.specs.Legal.{Allowed, Legal, LegalFrom, MayOpen, MayRevise, MayReask, MayClose, MayLeave, MayArrive, job_of, jobs_of, tenant_count}
use Rattle.spec_hall.specs.Own.{is_key, brought_by}
use Rattle.spec_hall.specs.Room.{IsOver}
use Rattle.spec_hall.specs.States.{LeaseOut, leases, lease_of, states, names_of}

-- a call of a hall: a job is opened, revised or closed, or its ask changes, a worker picks, what came of a lease is
-- given back, all leases are recalled, or the reply to a revision is asked for; and where a job goes from one hall to
-- another it is packed here with its own events, admitted there with them, and leaves here
pub data Call : Type 0 where
  Opens : Key → Terms → Call
  Revises : Key → Posted → Call
  Reasks : Key → Weighed → Call
  Closes : Key → Call
  Picks : ℕ → Call
  Finishes : Finished → Call
  Recalls : Call
  Asks : Key → ℕ → Call
  Packs : Key → Call
  Admits : Key → List Own → Call
  Leaves : Key → Call

-- a lease as it is handed out: the journal of its node, what its start adds, and its worker
pub record Handed : Type 0 where
  pub journal : Journaled
  pub adds : List JournalEntry
  pub worker : ℕ

-- what a worker gets: a lease, nothing now, or nothing any more
pub data Offer : Type 0 where
  Leased : Handed → Offer
  Idle : Offer
  AllDone : Offer

-- what is answered to what came of a lease: it is taken back, or it is strange, and the worker keeps its lease, the
-- start of this number
pub data Return : Type 0 where
  Back : Return
  Strange : Option ℕ → Return

-- what a call is answered with
abbrev pub AnswerTo : Call → Type 0
AnswerTo (Opens k ask) = Result (Unit {0}) OpenFault
AnswerTo (Revises k r) = Result (Unit {0}) ReviseFault
AnswerTo (Reasks k w) = Result (Unit {0}) ReaskFault
AnswerTo (Closes k) = Result (Unit {0}) CloseFault
AnswerTo (Picks worker) = Result Offer PickFault
AnswerTo (Finishes d) = Return
AnswerTo Recalls = Unit {0}
AnswerTo (Asks k r) = Result (Option (List ℕ)) ReplyFault
AnswerTo (Packs k) = Result (List Own) PackFault
AnswerTo (Admits k brought) = Result (Unit {0}) AdmitFault
AnswerTo (Leaves k) = Unit {0}

-- a job is opened where it may be, or is refused: its name was there, its tenant had 64 jobs, or there were 64 other
-- tenants
abbrev pub IsOpening : List Event → Key → Terms → Result (Unit {0}) OpenFault → List Event → Type 0
IsOpening past k ask (Ok done) es = MayOpen past k ask × (es ≡ Open k ask ∷ [])
IsOpening past k ask (Err opening.Duplicate) es = (list_any (is_key k) (names_of past) ≡ true) × (es ≡ [])
IsOpening past k ask (Err opening.TenantFull) es = (list_any (is_key k) (names_of past) ≡ false) × (limits.jobs_of_tenant ≤ jobs_of k.tenant (names_of past)) × (es ≡ [])
IsOpening past k ask (Err opening.HallFull) es = (list_any (is_key k) (names_of past) ≡ false) × (jobs_of k.tenant (names_of past) ≡ 0) × (limits.tenants ≤ tenant_count (names_of past)) × (es ≡ [])
IsOpening past k ask (Err opening.OutOfMemory) es = MayOpen past k ask × (es ≡ [])

-- the next revision of a job is posted where it may be, or is refused: there is no such job, it is closed, it has 256
-- revisions, or it has no room for the clauses or the literals
abbrev pub IsRevising : List Event → Key → Posted → Result (Unit {0}) ReviseFault → List Event → Type 0
IsRevising past k r (Ok done) es = (t : KeyedJob) × MayRevise past k (length t.state.revisions + 1) r t × (es ≡ Revise k (length t.state.revisions + 1) r ∷ [])
IsRevising past k r (Err revising.NoJob) es = (job_of k (states past) ≡ None) × (es ≡ [])
IsRevising past k r (Err revising.Closed) es = (t : KeyedJob) × (job_of k (states past) ≡ Some t) × (t.state.closed ≡ true) × (es ≡ [])
IsRevising past k r (Err revising.RevisionsFull) es = (t : KeyedJob) × (job_of k (states past) ≡ Some t) × (t.state.closed ≡ false) × (limits.revisions ≤ length t.state.revisions) × (es ≡ [])
IsRevising past k r (Err (revising.JobFull which)) es = (t : KeyedJob) × (job_of k (states past) ≡ Some t) × (t.state.closed ≡ false) × (length t.state.revisions < limits.revisions) × IsOver which t.state.revisions r × (es ≡ [])
IsRevising past k r (Err revising.OutOfMemory) es = (t : KeyedJob) × MayRevise past k (length t.state.revisions + 1) r t × (es ≡ [])

-- the ask of a job changes where it may, or that is refused: there is no such job, or it is closed
abbrev pub IsReasking : List Event → Key → Weighed → Result (Unit {0}) ReaskFault → List Event → Type 0
IsReasking past k w (Ok done) es = (t : KeyedJob) × MayReask past k w t × (es ≡ Reask k w ∷ [])
IsReasking past k w (Err reasking.NoJob) es = (job_of k (states past) ≡ None) × (es ≡ [])
IsReasking past k w (Err reasking.Closed) es = (t : KeyedJob) × (job_of k (states past) ≡ Some t) × (t.state.closed ≡ true) × (es ≡ [])
IsReasking past k w (Err reasking.OutOfMemory) es = (t : KeyedJob) × MayReask past k w t × (es ≡ [])

-- a job is closed where it may be, or is refused: there is no such job, or it is closed
abbrev pub IsClosing : List Event → Key → Result (Unit {0}) CloseFault → List Event → Type 0
IsClosing past k (Ok done) es = (t : KeyedJob) × MayClose past k t × (es ≡ Close k ∷ [])
IsClosing past k (Err closing.NoJob) es = (job_of k (states past) ≡ None) × (es ≡ [])
IsClosing past k (Err closing.Closed) es = (t : KeyedJob) × (job_of k (states past) ≡ Some t) × (t.state.closed ≡ true) × (es ≡ [])

-- whether an event arranges the jobs: a balancing or an exchange
abbrev pub arranges : Event → Bool
arranges (Balance shares) = true
arranges (Exchange k) = true
arranges event = false

-- balancings and exchanges that are due, one after the other
pub record AreDue (workers : ℕ) (past es : List Event) : Type 0 where
  pub kinds : list_all arranges es ≡ true
  pub legal : LegalFrom workers past es

-- whether every job is closed and answered and nothing is out
abbrev pub is_over : List Event → Bool
is_over past = is_done (states past) && length (leases past) == 0

-- a worker has nothing out, and there is something to wait for
pub record MayPick (past : List Event) (worker : ℕ) : Type 0 where
  pub free : lease_of worker (leases past) ≡ None
  pub more : is_over past ≡ false

-- the lease of a worker as it is handed out
abbrev pub handed : List Event → LeaseOut → Handed
handed history l = record { journal = lease_journal history l; adds = lease_adds history l; worker = l.worker }

-- a worker starts a node: what is due comes first, and then the start of the node that is picked
pub record IsStarting (workers : ℕ) (past : List Event) (worker : ℕ) (lease : Handed) (es : List Event) : Type 0 where
  pub may : MayPick past worker
  pub due : List Event
  pub key : Key
  pub index : ℕ
  pub events : es ≡ due ++ Start key index worker ∷ []
  pub first : AreDue workers past due
  pub start : Allowed workers (past ++ due) (Start key index worker)
  pub lease_is : lease ≡ handed (past ++ es) (record { worker = worker; key = key; index = index })

-- no node may start once what is due has come
pub record IsWaiting (workers : ℕ) (past : List Event) (worker : ℕ) (es : List Event) : Type 0 where
  pub may : MayPick past worker
  pub due : AreDue workers past es
  pub idle : IsIdle (past ++ es)

-- memory ran out: of what is due some came, and no start
pub record IsWanting (workers : ℕ) (past : List Event) (worker : ℕ) (es : List Event) : Type 0 where
  pub may : MayPick past worker
  pub due : AreDue workers past es

-- a worker picks: it is busy where it has a lease out, all is done where every job is closed and answered and nothing
-- is out, and else it gets the picked node after what is due, or waits
abbrev pub IsPicking : ℕ → List Event → ℕ → Result Offer PickFault → List Event → Type 0
IsPicking workers past worker (Ok (Leased lease)) es = IsStarting workers past worker lease es
IsPicking workers past worker (Ok Idle) es = IsWaiting workers past worker es
IsPicking workers past worker (Ok AllDone) es = (is_over past ≡ true) × (es ≡ [])
IsPicking workers past worker (Err picking.Busy) es = (is_some (lease_of worker (leases past)) ≡ true) × (es ≡ [])
IsPicking workers past worker (Err picking.OutOfMemory) es = IsWanting workers past worker es

-- what comes back is of this lease, which its worker has out
pub record IsOfLease (past : List Event) (d : Finished) (l : LeaseOut) : Type 0 where
  pub out : lease_of d.worker (leases past) ≡ Some l
  pub journal : IsGrownBy d.outcome (lease_adds past l) (lease_journal past l) d.journal

-- what came of a lease is taken back where its journal is that of the lease which its worker has out, after it ran with
-- the entries of the start; else it is strange
abbrev pub IsReturning : List Event → Finished → Return → List Event → Type 0
IsReturning past d Back es = (l : LeaseOut) × IsOfLease past d l × (es ≡ Finish l.key l.index d.worker d.outcome ∷ [])
IsReturning past d (Strange kept) es = ((l : LeaseOut) → IsOfLease past d l → ⊥) × (kept ≡ option_map (λ l. start_number l.worker past) (lease_of d.worker (leases past))) × (es ≡ [])

-- the loss of the lease that a worker has out
abbrev pub lost_of : List LeaseOut → ℕ → List Event
lost_of out worker = option_map_or (λ l. Finish l.key l.index worker Lost ∷ []) (lease_of worker out) []

-- every lease that is out is lost, by rising worker
abbrev pub recalled : ℕ → List Event → List Event
recalled workers past = flat_map (lost_of (leases past)) (counted 1 workers)

-- the reply to a revision is that of the job's machine; there may be no such job, or no memory for the text
abbrev pub IsAsking : List Event → Key → ℕ → Result (Option (List ℕ)) ReplyFault → List Event → Type 0
IsAsking past k r (Ok text) es = (t : KeyedJob) × (job_of k (states past) ≡ Some t) × (text ≡ reply k r t.state) × (es ≡ [])
IsAsking past k r (Err asking.NoJob) es = (job_of k (states past) ≡ None) × (es ≡ [])
IsAsking past k r (Err asking.OutOfMemory) es = (t : KeyedJob) × (job_of k (states past) ≡ Some t) × (es ≡ [])

-- the first node of a job that is out
abbrev pub first_out : SoloMachine → Option ℕ
first_out s = find (λ i. is_some (place_at s i).out) (counted 0 64)

-- a job is packed with what it brings where it goes, or that is refused: there is no such job, or a node of it is out,
-- the first of which is told
abbrev pub IsPacking : List Event → Key → Result (List Own) PackFault → List Event → Type 0
IsPacking past k (Ok brought) es = (t : KeyedJob) × MayLeave past k t × (first_out t.state ≡ None) × (brought ≡ brought_by k past) × (es ≡ [])
IsPacking past k (Err packing.NoJob) es = (job_of k (states past) ≡ None) × (es ≡ [])
IsPacking past k (Err (packing.Out index)) es = (t : KeyedJob) × (job_of k (states past) ≡ Some t) × (first_out t.state ≡ Some index) × (es ≡ [])
IsPacking past k (Err packing.OutOfMemory) es = (t : KeyedJob) × MayLeave past k t × (es ≡ [])

-- a job that is not there has the room that its coming wants, as far as the names are concerned
pub record MayCome (past : List Event) (k : Key) : Type 0 where
  pub absent : job_of k (states past) ≡ None
  pub tenant_room : list_any (is_key k) (names_of past) ≡ false → jobs_of k.tenant (names_of past) < limits.jobs_of_tenant
  pub hall_room : (jobs_of k.tenant (names_of past) ≡ 0) → tenant_count (names_of past) < limits.tenants

-- whether a job has room: it may come, or it is there, or its name is new and its tenant had 64 jobs, or there were 64
-- other tenants; memory does not run out to it
abbrev pub IsAdmission : List Event → Key → Result (Unit {0}) AdmitFault → Type 0
IsAdmission past k (Ok done) = MayCome past k
IsAdmission past k (Err admitting.Present) = (t : KeyedJob) × (job_of k (states past) ≡ Some t)
IsAdmission past k (Err admitting.TenantFull) = (job_of k (states past) ≡ None) × (list_any (is_key k) (names_of past) ≡ false) × (limits.jobs_of_tenant ≤ jobs_of k.tenant (names_of past))
IsAdmission past k (Err admitting.HallFull) = (job_of k (states past) ≡ None) × (list_any (is_key k) (names_of past) ≡ false) × (jobs_of k.tenant (names_of past) ≡ 0) × (limits.tenants ≤ tenant_count (names_of past))
IsAdmission past k (Err admitting.OutOfMemory) = ⊥

-- a job is admitted where it may arrive, or is refused where it has no room
abbrev pub IsAdmitting : List Event → Key → List Own → Result (Unit {0}) AdmitFault → List Event → Type 0
IsAdmitting past k brought (Ok done) es = MayArrive past k brought × (es ≡ Arrive k brought ∷ [])
IsAdmitting past k brought (Err admitting.Present) es = IsAdmission past k (Err admitting.Present) × (es ≡ [])
IsAdmitting past k brought (Err admitting.TenantFull) es = IsAdmission past k (Err admitting.TenantFull) × (es ≡ [])
IsAdmitting past k brought (Err admitting.HallFull) es = IsAdmission past k (Err admitting.HallFull) × (es ≡ [])
IsAdmitting past k brought (Err admitting.OutOfMemory) es = MayArrive past k brought × (es ≡ [])

-- a job leaves that may
abbrev pub IsLeaving : List Event → Key → Unit {0} → List Event → Type 0
IsLeaving past k done es = (t : KeyedJob) × MayLeave past k t × (es ≡ Leave k ∷ [])

-- a call of a hall of so many workers after a past is answered so and enters these events
abbrev pub IsCall : ℕ → List Event → (c : Call) → AnswerTo c → List Event → Type 0
IsCall workers past (Opens k ask) answer es = IsOpening past k ask answer es
IsCall workers past (Revises k r) answer es = IsRevising past k r answer es
IsCall workers past (Reasks k w) answer es = IsReasking past k w answer es
IsCall workers past (Closes k) answer es = IsClosing past k answer es
IsCall workers past (Picks worker) answer es = IsPicking workers past worker answer es
IsCall workers past (Finishes d) answer es = IsReturning past d answer es
IsCall workers past Recalls answer es = es ≡ recalled workers past
IsCall workers past (Asks k r) answer es = IsAsking past k r answer es
IsCall workers past (Packs k) answer es = IsPacking past k answer es
IsCall workers past (Admits k brought) answer es = IsAdmitting past k brought answer es
IsCall workers past (Leaves k) answer es = IsLeaving past k answer es

-- a call has brought a history from a past
pub record HasCalled (workers : ℕ) (past : List Event) (c : Call) (answer : AnswerTo c) (history : List Event) : Type 0 where
  pub events : List Event
  pub grown : history ≡ past ++ events
  pub call : IsCall workers past c answer events

-- whether an answer tells that memory ran out
abbrev pub wanted : (c : Call) → AnswerTo c → Bool
wanted (Opens k ask) (Ok done) = false
wanted (Opens k ask) (Err opening.Duplicate) = false
wanted (Opens k ask) (Err opening.TenantFull) = false
wanted (Opens k ask) (Err opening.HallFull) = false
wanted (Opens k ask) (Err opening.OutOfMemory) = true
wanted (Revises k r) (Ok done) = false
wanted (Revises k r) (Err revising.NoJob) = false
wanted (Revises k r) (Err revising.Closed) = false
wanted (Revises k r) (Err revising.RevisionsFull) = false
wanted (Revises k r) (Err (revising.JobFull which)) = false
wanted (Revises k r) (Err revising.OutOfMemory) = true
wanted (Reasks k w) (Ok done) = false
wanted (Reasks k w) (Err reasking.NoJob) = false
wanted (Reasks k w) (Err reasking.Closed) = false
wanted (Reasks k w) (Err reasking.OutOfMemory) = true
wanted (Closes k) answer = false
wanted (Picks worker) (Ok offer) = false
wanted (Picks worker) (Err picking.Busy) = false
wanted (Picks worker) (Err picking.OutOfMemory) = true
wanted (Finishes d) answer = false
wanted Recalls answer = false
wanted (Asks k r) (Ok text) = false
wanted (Asks k r) (Err asking.NoJob) = false
wanted (Asks k r) (Err asking.OutOfMemory) = true
wanted (Packs k) (Ok brought) = false
wanted (Packs k) (Err packing.NoJob) = false
wanted (Packs k) (Err (packing.Out index)) = false
wanted (Packs k) (Err packing.OutOfMemory) = true
wanted (Admits k brought) (Ok done) = false
wanted (Admits k brought) (Err admitting.Present) = false
wanted (Admits k brought) (Err admitting.TenantFull) = false
wanted (Admits k brought) (Err admitting.HallFull) = false
wanted (Admits k brought) (Err admitting.OutOfMemory) = true
wanted (Leaves k) answer = false

-- the answer of a call and its events are decided by the history, the call and whether memory ran out; where it
-- was, the events of a pick are some of those that are due
abbrev pub CallIsDecided : Type 0
CallIsDecided =
    (workers : ℕ) (past : List Event) (c : Call) (one other : AnswerTo c) (es fs : List Event)
    → IsCall workers past c one es → IsCall workers past c other fs → wanted c one ≡ wanted c other
    → (one ≡ other) × (wanted c one ≡ false → es ≡ fs)

-- the events of a call leave a legal history legal
abbrev pub CallIsLegal : Type 0
CallIsLegal =
    (workers : ℕ) (past : List Event) (c : Call) (answer : AnswerTo c) (es : List Event)
    → 1 ≤ workers → workers ≤ 64 → Legal workers past → IsCall workers past c answer es → Legal workers (past ++ es)
