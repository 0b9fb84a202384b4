-- What holds of clusters, in the form in which the law functions state it.
use Rattle.std.specs.Prelude.{◌≡◌, ◌≢◌, ◌⊎◌, ℕ, ◌+◌, ◌<◌, ◌≤◌, true, false, List, [], ◌∷◌, ◌++◌, length, map, slice_get, Option, Some, None, is_some, Result, Err}
use Rattle.std.specs.List.{list_all, list_any}
use Rattle.mal_base.specs.Asks.{Terms, Weighed}
use Rattle.mal_base.specs.declared.hall_fault.OpenFault.{OpenFault}
use Rattle.mal_base.specs.declared.hall_fault.ReviseFault.{ReviseFault}
use Rattle.mal_base.specs.declared.hall_fault.ReaskFault.{ReaskFault}
use Rattle.mal_base.specs.declared.hall_fault.CloseFault.{CloseFault}
use Rattle.mal_revision.specs.Posted.{Posted}
use Rattle.spec_job.specs.DemandOne.{asks_for_one, AgreeAll}
use Rattle.spec_job.specs.KeyedJob.{Key}
use Rattle.spec_job.specs.Models.{KeepsAnswers}
use Rattle.spec_job.specs.SoloMachine.{Own, solo}
use Rattle.spec_job.specs.Unknown.{is_fed}
use Rattle.spec_hall.specs.Events.{Event, moves}
use Rattle.spec_hall.specs.Laws.{AsksForOne}
use Rattle.spec_hall.specs.Legal.{Legal}
use Rattle.spec_hall.specs.Own.{own}
use Rattle.spec_hall.specs.States.{leases}
use Rattle.spec_hall.specs.Turns.{TakesTurn, first_live}
use Rattle.spec_run.specs.Complete.{key_of_job}
use Rattle.spec_run.specs.Run.{IsEvident, IsRun, job_replies}
use Rattle.spec_script.specs.Formed.{IsScript}
use Rattle.mal_base.specs.Limits.{limits}
use Rattle.spec_script.specs.Script.{ScriptedJob, Scripted}
use Rattle.spec_cluster.specs.declared.fault.MoveFault.{MoveFault}
use Rattle.spec_cluster.specs.declared.fault.MoveFault.TheVariants as moving
use Rattle.spec_cluster.specs.Calls.{IsOpening, IsRevising, IsReasking, IsClosing, IsMoving, went}
use Rattle.spec_cluster.specs.Clusters.{Cluster, IsCluster, new_cluster, with_hall, is_there, is_had, home}
use Rattle.spec_cluster.specs.Rounds.{AreRounds, IsRound, goes, is_live, left_over, may_come, next_hall}
use Rattle.spec_cluster.specs.Run.{IsClusterRun, dealt_from, is_for_one, moved_replies, posted}
use Rattle.spec_cluster.specs.Visits.{hall_at, opens, all_of}

-- a hall's own events of a job that is there are all that the job did
abbrev pub OwnIsAll : Type 0
OwnIsAll = (c : Cluster) (k : Key) (n : ℕ) → IsCluster c → is_there k (hall_at c.halls n) ≡ true → own k (hall_at c.halls n) ≡ all_of k c.halls c.moves

-- events of one hall that move no job, open only jobs that no hall ever had, and leave it legal without a lease out
pub record Grows (c : Cluster) (n : ℕ) (es : List Event) : Type 0 where
  pub within : n < length c.halls
  pub legal : Legal c.workers (hall_at c.halls n ++ es)
  pub calm : leases (hall_at c.halls n ++ es) ≡ []
  pub still : list_any moves es ≡ false
  pub fresh : (k : Key) → list_any (opens k) es ≡ true → is_had k c.halls ≡ false

-- the cluster with them
abbrev pub grown : Cluster → ℕ → List Event → Cluster
grown c n es = with_hall c n (hall_at c.halls n ++ es)

-- the invariant holds at first
abbrev pub NewIsCluster : Type 0
NewIsCluster = (halls workers : ℕ) → 2 ≤ halls → halls ≤ 8 → 1 ≤ workers → workers ≤ 64 → IsCluster (new_cluster halls workers)

-- such events keep it
abbrev pub GrowthKeeps : Type 0
GrowthKeeps = (c : Cluster) (n : ℕ) (es : List Event) → IsCluster c → Grows c n es → IsCluster (grown c n es)

-- a hall's turn enters such events
abbrev pub TurnGrows : Type 0
TurnGrows =
    (c : Cluster) (n every : ℕ) (now : List Event) → IsCluster c → n < length c.halls → TakesTurn c.workers every (hall_at c.halls n) now
    → (es : List Event) × (now ≡ hall_at c.halls n ++ es) × Grows c n es

-- a cluster is as before, or has grown by such events of one hall
abbrev pub HasGrown : Cluster → Cluster → Type 0
HasGrown c after = (after ≡ c) ⊎ ((n : ℕ) × (es : List Event) × Grows c n es × (after ≡ grown c n es))

-- each call that posts leads from a cluster to one that is so related to it
pub record CallsHave (R : Cluster → Cluster → Type 0) : Type 0 where
  pub opening : (c after : Cluster) (n : ℕ) (k : Key) (ask : Terms) (answer : Result (Unit {0}) OpenFault) → n < length c.halls → IsCluster c → IsOpening c n k ask answer after → R c after
  pub revising : (c after : Cluster) (k : Key) (r : Posted) (answer : Result (Unit {0}) ReviseFault) → IsCluster c → IsRevising c k r answer after → R c after
  pub reasking : (c after : Cluster) (k : Key) (w : Weighed) (answer : Result (Unit {0}) ReaskFault) → IsCluster c → IsReasking c k w answer after → R c after
  pub closing : (c after : Cluster) (k : Key) (answer : Result (Unit {0}) CloseFault) → IsCluster c → IsClosing c k answer after → R c after

-- the calls that post enter such events, and so they keep it
abbrev pub CallsGrow : Type 0
CallsGrow = CallsHave HasGrown

abbrev pub CallsKeep : Type 0
CallsKeep = CallsHave (λ c after. IsCluster after)

-- and so does a move
abbrev pub MoveKeeps : Type 0
MoveKeeps = (c after : Cluster) (k : Key) (to : ℕ) (answer : Result (Unit {0}) MoveFault) → IsCluster c → IsMoving c k to answer after → IsCluster after

-- the answers of each job in one cluster stay in another
abbrev pub KeepsAll : Cluster → Cluster → Type 0
KeepsAll c after = (k : Key) → KeepsAnswers (solo (all_of k c.halls c.moves)) (solo (all_of k after.halls after.moves))

-- they stay over such events, over the calls that post, and over a move
pub record AnswersStay : Type 0 where
  pub events : (c : Cluster) (n : ℕ) (es : List Event) → IsCluster c → Grows c n es → KeepsAll c (grown c n es)
  pub calls : CallsHave KeepsAll
  pub move : (c after : Cluster) (k : Key) (to : ℕ) (answer : Result (Unit {0}) MoveFault) → IsCluster c → IsMoving c k to answer after → KeepsAll c after

-- the answers of each job are evidence
abbrev pub AllIsEvident : Type 0
AllIsEvident = (c : Cluster) (k : Key) → IsCluster c → IsEvident (all_of k c.halls c.moves)

-- all that a job did was done for one worker: its demand was always 1, and no start of it ran out of memory
pub record DidForOne (did : List Own) : Type 0 where
  pub demand : (solo did).ask.demand ≡ 1
  pub always : list_all asks_for_one did ≡ true
  pub fed : list_all is_fed did ≡ true

-- such a job of a cluster agrees with one of the same name, budget, profile and revisions in one hall, as far as both go
abbrev pub SinglesAgree : Type 0
SinglesAgree =
    (c : Cluster) (k : Key) (others : ℕ) (other : List Event) (more : List Posted) → IsCluster c → DidForOne (all_of k c.halls c.moves) → Legal others other → AsksForOne other k
    → (solo (all_of k c.halls c.moves)).ask.slices ≡ (solo (own k other)).ask.slices → (solo (all_of k c.halls c.moves)).ask.profile ≡ (solo (own k other)).ask.profile
    → (solo (own k other)).revisions ≡ (solo (all_of k c.halls c.moves)).revisions ++ more → AgreeAll (solo (all_of k c.halls c.moves)) (solo (own k other))

-- a job that was chosen goes on by the call that moves it to the next hall, and stays where that refuses it
abbrev pub MovesGoOn : Type 0
MovesGoOn =
    (c after : Cluster) (k : Key) (from : ℕ) (answer : Result (Unit {0}) MoveFault) → IsCluster c → home k c.halls ≡ Some from
    → IsMoving c k (next_hall from c + 1) answer after → answer ≢ Err moving.OutOfMemory → after ≡ goes (Some k) from c

-- the jobs of a script that a hall gets are a script
abbrev pub DealtIsScript : Type 0
DealtIsScript = (halls n : ℕ) (s : Scripted) → IsScript limits s → IsScript limits (record { jobs = dealt_from halls n 0 s.jobs })

-- halls that got their jobs are a cluster
abbrev pub PostedIsCluster : Type 0
PostedIsCluster = (halls workers : ℕ) (s : Scripted) → 2 ≤ halls → halls ≤ 8 → 1 ≤ workers → workers ≤ 64 → IsScript limits s → IsCluster (posted halls workers s)

-- after any rounds some hall has each job of the script
abbrev pub JobsAreThere : Type 0
JobsAreThere =
    (halls workers every i : ℕ) (s : Scripted) (rounds : List Cluster) (end : Cluster) (j : ScriptedJob) → IsScript limits s
    → AreRounds every (posted halls workers s) rounds end → IsCluster end → slice_get s.jobs i ≡ Some j → is_some (home (key_of_job j) end.halls) ≡ true

-- a round keeps what holds of a cluster, and so do rounds one after the other
pub record RoundsKeep : Type 0 where
  pub round : (every : ℕ) (c after : Cluster) → IsCluster c → IsRound every c after → IsCluster after
  pub rounds : (every : ℕ) (c end : Cluster) (rounds : List Cluster) → IsCluster c → AreRounds every c rounds end → IsCluster end

-- a round in which a job is live leaves the jobs less to run
abbrev pub RoundsEnd : Type 0
RoundsEnd = (every : ℕ) (c after : Cluster) → 1 ≤ every → IsCluster c → is_live c ≡ true → IsRound every c after → left_over after < left_over c

-- each chosen job may come to the next hall when it goes on; the first was chosen in the hall at this place
abbrev pub MayAllCome : List (Option Key) → ℕ → Cluster → Type 0
MayAllCome [] from c = Unit {0}
MayAllCome (None ∷ rest) from c = MayAllCome rest (from + 1) c
MayAllCome (Some k ∷ rest) from c = (may_come k (hall_at c.halls (next_hall from c)) ≡ true) × MayAllCome rest (from + 1) (went k from (next_hall from c) c)

-- so it is in each round
abbrev pub AllMove : (every : ℕ) (now : Cluster) (rounds : List Cluster) (end : Cluster) → AreRounds every now rounds end → Type 0
AllMove every now [] end are = Unit {0}
AllMove every now (next ∷ rest) end are = MayAllCome (map first_live are.1.mids) 0 (record now { halls = are.1.mids }) × AllMove every next rest end are.2

-- in the rounds over a script no move is refused
abbrev pub MovesAreTaken : Type 0
MovesAreTaken = (halls workers every : ℕ) (s : Scripted) (rounds : List Cluster) (end : Cluster) → IsScript limits s → (are : AreRounds every (posted halls workers s) rounds end) → AllMove every (posted halls workers s) rounds end are

-- a job that always asks for one worker is replied to in a cluster as in one hall that ran the same script, where no
-- start of it ran out of memory
abbrev pub SinglesReplyAlike : Type 0
SinglesReplyAlike =
    (halls workers every others i : ℕ) (s : Scripted) (rounds : List Cluster) (end : Cluster) (log out : List ℕ) (history : List Event) (log_other out_other : List ℕ) (j : ScriptedJob)
    → IsScript limits s → IsClusterRun halls workers every s rounds end log out → IsRun others s history log_other out_other → slice_get s.jobs i ≡ Some j → is_for_one j ≡ true
    → list_all is_fed (all_of (key_of_job j) end.halls end.moves) ≡ true → list_all is_fed (own (key_of_job j) history) ≡ true → moved_replies end j ≡ job_replies history j
