use Rattle.std.specs.Prelude.{◌≡◌, ◌≢◌, ℕ, ◌+◌, ◌<◌, ◌≤◌, true, false, ◌==◌, List, [], ◌∷◌, ◌++◌, length, map, find, count_by, slice_get, Option, Some, None, if◌then◌else◌}
use Rattle.std.specs.List.{list_any}
use Rattle.mal_base.specs.Limits.{limits}
use Rattle.mal_base.specs.Asks.{Terms, Weighed, IsAsk, IsWeight}
use Rattle.mal_base.specs.Names.{is_name}
use Rattle.mal_history.specs.declared.event.Share.{Share}
use Rattle.mal_base.specs.Formulas.{literals_of}
use Rattle.mal_revision.specs.Posted.{Posted, is_posted}
use Rattle.spec_balance.specs.Fair.{IsFair}
use Rattle.spec_job.specs.Counts.{starts_out}
use Rattle.spec_job.specs.Lawful.{IsLawful}
use Rattle.spec_job.specs.SoloMachine.{Own, solo, clauses_in, literals_in}
use Rattle.spec_job.specs.KeyedJob.{Key, KeyedJob}
use Rattle.spec_hall.specs.Events.{Event, Open, Revise, Reask, Close, Balance, Start, Finish, Exchange, Leave, Arrive, key_of}
use Rattle.spec_hall.specs.Own.{is_text, is_key, volume_after}
use Rattle.spec_hall.specs.States.{Candidate, keys_of, names_of, states, lives, live_asks, balanced, leases, lease_of, exchange_due, picked}

-- the job of a key
abbrev pub job_of : Key → List KeyedJob → Option KeyedJob
job_of k jobs = find (λ t. is_key k t.key) jobs

-- how many names of jobs a tenant has
abbrev pub jobs_of : List ℕ → List Key → ℕ
jobs_of tenant names = count_by (λ k. is_text tenant k.tenant) names

-- how many tenants there are: a name counts where no later name has its tenant
abbrev pub tenant_count : List Key → ℕ
tenant_count [] = 0
tenant_count (k ∷ ks) = (if 0 == jobs_of k.tenant ks then 1 else 0) + tenant_count ks

-- a job may be opened: it has a name and an ask in form, no job ever had its key, its tenant had fewer than 64 jobs, and
-- there were fewer than 64 other tenants
pub record MayOpen (past : List Event) (k : Key) (ask : Terms) : Type 0 where
  pub tenant : is_name k.tenant ≡ true
  pub job : is_name k.job ≡ true
  pub asked : IsAsk ask
  pub fresh : list_any (is_key k) (names_of past) ≡ false
  pub tenant_room : jobs_of k.tenant (names_of past) < limits.jobs_of_tenant
  pub hall_room : (jobs_of k.tenant (names_of past) ≡ 0) → tenant_count (names_of past) < limits.tenants

-- a job that is open may get its next revision, of which there are 256 at most with 2^20 clauses and 2^24 literals
pub record MayRevise (past : List Event) (k : Key) (number : ℕ) (r : Posted) (t : KeyedJob) : Type 0 where
  pub job : job_of k (states past) ≡ Some t
  pub open_still : t.state.closed ≡ false
  pub posted : is_posted r ≡ true
  pub next : number ≡ length t.state.revisions + 1
  pub room : number ≤ limits.revisions
  pub clause_room : clauses_in t.state.revisions + length r.clauses ≤ limits.clauses
  pub literal_room : literals_in t.state.revisions + literals_of r.clauses ≤ limits.literals

-- a job that is open may change what it asks for to a priority and a demand in form
pub record MayReask (past : List Event) (k : Key) (w : Weighed) (t : KeyedJob) : Type 0 where
  pub job : job_of k (states past) ≡ Some t
  pub open_still : t.state.closed ≡ false
  pub weighed : IsWeight w

-- a job that is open may be closed
pub record MayClose (past : List Event) (k : Key) (t : KeyedJob) : Type 0 where
  pub job : job_of k (states past) ≡ Some t
  pub open_still : t.state.closed ≡ false

-- a balancing is due where the live jobs with their asks are not those of the last one, or a job moved since
abbrev pub IsBalanceDue : List Event → Type 0
IsBalanceDue past = Some (lives (states past)) ≢ balanced past

-- a balancing comes where it is due, and gives the live jobs, by opening, fair volumes
pub record MayBalance (workers : ℕ) (past : List Event) (shares : List Share) : Type 0 where
  pub due : IsBalanceDue past
  pub keys : map key_of shares ≡ map (λ l. l.key) (lives (states past))
  pub fair : IsFair workers (live_asks (states past)) (map (λ s. s.volume) shares)

-- a start comes where neither a balancing nor an exchange is due, of the node that is picked, by a worker that has none
-- out
pub record MayStart (workers : ℕ) (past : List Event) (k : Key) (index worker : ℕ) (choice : Candidate) : Type 0 where
  pub balance : Some (lives (states past)) ≡ balanced past
  pub exchange : exchange_due (states past) ≡ None
  pub first : picked (states past) ≡ Some choice
  pub key : slice_get (keys_of past) choice.job ≡ Some k
  pub place : choice.index ≡ index
  pub some_worker : 1 ≤ worker
  pub worker_bound : worker ≤ workers
  pub idle : lease_of worker (leases past) ≡ None

-- an exchange comes of the first job of which it is due, where no balancing is due
pub record MayExchange (past : List Event) (k : Key) (t : KeyedJob) : Type 0 where
  pub balance : Some (lives (states past)) ≡ balanced past
  pub first : exchange_due (states past) ≡ Some t
  pub key : t.key ≡ k

-- a job that is there and has no node out may leave
pub record MayLeave (past : List Event) (k : Key) (t : KeyedJob) : Type 0 where
  pub job : job_of k (states past) ≡ Some t
  pub home : list_any (λ l. is_key k l.key) (leases past) ≡ false

-- a job that is not there may arrive with lawful own events, with no node out and no volume; a name that is new here
-- has the room that an opening wants
pub record MayArrive (past : List Event) (k : Key) (brought : List Own) : Type 0 where
  pub tenant : is_name k.tenant ≡ true
  pub job : is_name k.job ≡ true
  pub absent : job_of k (states past) ≡ None
  pub tenant_room : list_any (is_key k) (names_of past) ≡ false → jobs_of k.tenant (names_of past) < limits.jobs_of_tenant
  pub hall_room : (jobs_of k.tenant (names_of past) ≡ 0) → tenant_count (names_of past) < limits.tenants
  pub lawful : IsLawful brought
  pub home : starts_out (solo brought).places ≡ 0
  pub still : volume_after brought ≡ 0

-- an event is allowed after a past
abbrev pub Allowed : ℕ → List Event → Event → Type 0
Allowed workers past (Open k ask) = MayOpen past k ask
Allowed workers past (Revise k number r) = (t : KeyedJob) × MayRevise past k number r t
Allowed workers past (Reask k w) = (t : KeyedJob) × MayReask past k w t
Allowed workers past (Close k) = (t : KeyedJob) × MayClose past k t
Allowed workers past (Balance shares) = MayBalance workers past shares
Allowed workers past (Start k index worker) = (choice : Candidate) × MayStart workers past k index worker choice
Allowed workers past (Finish k index worker outcome) = lease_of worker (leases past) ≡ Some (record { worker = worker; key = k; index = index })
Allowed workers past (Exchange k) = (t : KeyedJob) × MayExchange past k t
Allowed workers past (Leave k) = (t : KeyedJob) × MayLeave past k t
Allowed workers past (Arrive k brought) = MayArrive past k brought

-- each event is allowed after the past and those before it
abbrev pub LegalFrom : ℕ → List Event → List Event → Type 0
LegalFrom workers past [] = Unit {0}
LegalFrom workers past (e ∷ es) = Allowed workers past e × LegalFrom workers (past ++ e ∷ []) es

-- a history of so many workers in which each event is allowed after those before it
abbrev pub Legal : ℕ → List Event → Type 0
Legal workers history = LegalFrom workers [] history
