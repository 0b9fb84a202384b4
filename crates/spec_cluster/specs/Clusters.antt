-- A cluster: the histories of its halls, between which jobs move, and the moves.
use Rattle.std.specs.Prelude.{◌≡◌, ◌⊎◌, ℕ, ◌+◌, ◌≤◌, Bool, true, false, List, [], ◌∷◌, ◌++◌, flat_map, length, replicate, slice_set, Option, Some, None, if◌then◌else◌}
use Rattle.std.specs.Option.{option_map}
use Rattle.std.specs.List.{list_any}
use Rattle.spec_job.specs.KeyedJob.{Key}
use Rattle.spec_job.specs.SoloMachine.{Own}
use Rattle.spec_hall.specs.Events.{Event, Arrive}
use Rattle.spec_hall.specs.Legal.{Legal}
use Rattle.spec_hall.specs.Own.{is_key, leaves, arrives}
use Rattle.spec_hall.specs.States.{keys_of, names_of, leases}
use Rattle.spec_cluster.specs.Visits.{Visit, Move, hall_at, since, until_leave, opens, moved_to, visits, stayed}

-- halls of so many workers each, by their histories, and the moves of jobs between them, in their order
pub record Cluster : Type 0 where
  pub workers : ℕ
  pub halls : List (List Event)
  pub moves : List Move

-- a cluster of so many halls in which nothing has happened
abbrev pub new_cluster : ℕ → ℕ → Cluster
new_cluster halls workers = record { workers = workers; halls = replicate halls []; moves = [] }

-- the cluster with another history in a hall
abbrev pub with_hall : Cluster → ℕ → List Event → Cluster
with_hall c n h = record c { halls = slice_set c.halls n h }

-- whether a job is there in a hall
abbrev pub is_there : Key → List Event → Bool
is_there k h = list_any (is_key k) (keys_of h)

-- whether a hall ever had a job's name
abbrev pub is_named : Key → List Event → Bool
is_named k h = list_any (is_key k) (names_of h)

-- whether any hall ever had it
abbrev pub is_had : Key → List (List Event) → Bool
is_had k halls = list_any (is_named k) halls

-- the place of the hall that has a job
abbrev pub home : Key → List (List Event) → Option ℕ
home k [] = None
home k (h ∷ hs) = if is_there k h then Some 0 else option_map (λ n. n + 1) (home k hs)

-- all that a job did in these stays
abbrev pub done_in : Key → List (List Event) → List Visit → List Own
done_in k halls vs = flat_map (stayed k halls) vs

-- a job arrived in a history with these own events, and this many events are those up to its arrival
pub record HasArrived (k : Key) (history : List Event) (from : ℕ) (brought : List Own) : Type 0 where
  pub past : List Event
  pub later : List Event
  pub parts : history ≡ past ++ Arrive k brought ∷ later
  pub place : from ≡ length past + 1

-- a stay begins with the history of its hall where it is a job's first, else after the arrival of the job with all that
-- it did in its stays before
abbrev pub Begins : Key → List (List Event) → List Visit → Visit → Type 0
Begins k halls before v = ((before ≡ []) × (v.from ≡ 0)) ⊎ HasArrived k (hall_at halls v.hall) v.from (done_in k halls before)

-- a stay of a job after those before: the job does not arrive in it again, and has left or not
pub record IsStay (k : Key) (halls : List (List Event)) (before : List Visit) (v : Visit) (left : Bool) : Type 0 where
  pub begins : Begins k halls before v
  pub once : list_any (arrives k) (until_leave k (since halls v)) ≡ false
  pub ends : list_any (leaves k) (since halls v) ≡ left

-- stays of a job, each after those before, all of which it has left
abbrev pub AreLeft : Key → List (List Event) → List Visit → List Visit → Type 0
AreLeft k halls before [] = Unit {0}
AreLeft k halls before (v ∷ vs) = IsStay k halls before v true × AreLeft k halls (before ++ v ∷ []) vs

-- a job is in a hall of a cluster since its last stay began, and has left the stays before
pub record IsAtHome (c : Cluster) (k : Key) (n : ℕ) : Type 0 where
  pub gone : List Visit
  pub last : Visit
  pub stays : visits k c.halls c.moves ≡ gone ++ last ∷ []
  pub hall : last.hall ≡ n
  pub left : AreLeft k c.halls [] gone
  pub here : IsStay k c.halls gone last false

-- a job that no hall has was never had, and did not move
pub record IsUnknown (c : Cluster) (k : Key) : Type 0 where
  pub fresh : is_had k c.halls ≡ false
  pub still : moved_to k c.moves ≡ []

-- what holds of a cluster between its calls: 2 to 8 halls of 1 to 64 workers have legal histories in which no lease is
-- out, a job is there in one hall at most and was opened in one at most, each job that is there has stayed there since
-- its last move, with all that it did before, and one that is nowhere is unknown
pub record IsCluster (c : Cluster) : Type 0 where
  pub few : 2 ≤ length c.halls
  pub bound : length c.halls ≤ 8
  pub some_worker : 1 ≤ c.workers
  pub worker_bound : c.workers ≤ 64
  pub legal : (n : ℕ) → Legal c.workers (hall_at c.halls n)
  pub calm : (n : ℕ) → leases (hall_at c.halls n) ≡ []
  pub one_home : (k : Key) (m n : ℕ) → is_there k (hall_at c.halls m) ≡ true → is_there k (hall_at c.halls n) ≡ true → m ≡ n
  pub one_opening : (k : Key) (m n : ℕ) → list_any (opens k) (hall_at c.halls m) ≡ true → list_any (opens k) (hall_at c.halls n) ≡ true → m ≡ n
  pub at_home : (k : Key) (n : ℕ) → is_there k (hall_at c.halls n) ≡ true → IsAtHome c k n
  pub unknown : (k : Key) → ((n : ℕ) → is_there k (hall_at c.halls n) ≡ false) → IsUnknown c k
