-- What a cluster keeps over the calls of its halls.
use Rattle.std.proofs.Common.{◌≡◌, ℕ, ◌-◌, ◌<◌, ◌≤◌, Bool, true, false, cond, All, List, [], length, replicate, get_or, slice_set, Option, Some, None, is_some, Result, Ok, Err, inr, refl, sym, ◌∙◌, ap, subst, arith}
use Rattle.std.proofs.lemmas.List.{get_or-map, length-map, map-set}
use Rattle.std.proofs.lemmas.List.Elements.{All-set}
use Rattle.mal_base.specs.Asks.{Terms, Weighed}
use Rattle.mal_base.specs.declared.hall_fault.OpenFault.{OpenFault}
use Rattle.mal_base.specs.declared.hall_fault.ReviseFault.{ReviseFault}
use Rattle.mal_base.specs.declared.hall_fault.ReviseFault.TheVariants as revising
use Rattle.mal_base.specs.declared.hall_fault.ReaskFault.{ReaskFault}
use Rattle.mal_base.specs.declared.hall_fault.ReaskFault.TheVariants as reasking
use Rattle.mal_base.specs.declared.hall_fault.CloseFault.{CloseFault}
use Rattle.mal_base.specs.declared.hall_fault.CloseFault.TheVariants as closing
use Rattle.mal_base.specs.declared.hall_fault.ReplyFault.{ReplyFault}
use Rattle.mal_base.specs.declared.hall_fault.ReplyFault.TheVariants as asking
use Rattle.mal_revision.specs.Posted.{Posted}
use Rattle.spec_job.specs.KeyedJob.{Key, KeyedJob}
use Rattle.spec_job.specs.Replies.{reply}
use Rattle.spec_job.specs.SoloMachine.{Own, solo}
use Rattle.spec_hall.specs.Calls.{AnswerTo, Asks, Call, Closes, HasCalled, Opens, Reasks, Revises}
use Rattle.spec_hall.specs.Events.{Event}
use Rattle.spec_hall.specs.Legal.{job_of}
use Rattle.spec_hall.specs.Own.{own}
use Rattle.spec_hall.specs.States.{states, titled}
use Rattle.spec_hall.proofs.StatesLemmas.{job_of-states}
use Rattle.mal_hall.specs.HallView.{HallView}
use Rattle.spec_cluster.specs.Calls.{HasCalledAt, IsCallAt, IsClosing, IsOpening, IsReasking, IsReply, IsRevising}
use Rattle.spec_cluster.specs.Clusters.{Cluster, IsCluster, home, is_had, is_there, with_hall}
use Rattle.spec_cluster.specs.Visits.{Move, all_of, hall_at}
use Rattle.spec_cluster.proofs.CallKeepLemmas.{calls-keep, new-is_cluster}
use Rattle.spec_cluster.proofs.HallLemmas.{IsHome, home-found}
use Rattle.spec_cluster.proofs.StayedLemmas.{own-is_all}
use Rattle.mal_cluster.specs.Kept.{IsKept, cluster_of, histories}

-- the history at the place of a hall
pub history-at : (halls : List HallView) (n : ℕ) (h : HallView) → n < length halls → h ≡ get_or halls n h → hall_at (histories halls) n ≡ h.events
history-at halls n h low is = get_or-map (λ (x : HallView). x.events) halls n h [] low ∙ ap (λ (x : HallView). x.events) (sym is)

pub histories-length : (halls : List HallView) → length (histories halls) ≡ length halls
histories-length halls = length-map halls (λ (x : HallView). x.events)

pub histories-at : (halls : List HallView) (n : ℕ) (h : HallView) → histories (slice_set halls n h) ≡ slice_set (histories halls) n h.events
histories-at halls n h = map-set (λ (x : HallView). x.events) halls n h

-- the hall that has a job is one of these
pub home-within : (k : Key) (halls : List HallView) (n : ℕ) → home k (histories halls) ≡ Some n → n < length halls
home-within k halls n found = subst (λ (m : ℕ). n < m) (histories-length halls) (home-found k (histories halls) n found).within

-- an empty cluster
pub new-kept : (count w : ℕ) (halls : List HallView) → 2 ≤ count → count ≤ 8 → 1 ≤ w → w ≤ 64 → All (λ h. h.workers ≡ w) halls → histories halls ≡ replicate count [] → IsKept w halls []
new-kept count w halls few bound some most each empty = record {
  each = each;
  cluster = subst (λ (hs : List (List Event)). let c : Cluster = record { workers = w; halls = hs; moves = [] } in IsCluster c) (sym empty) (new-is_cluster count w few bound some most);
}

-- a call of the hall at a place
module _ (w : ℕ) (halls : List HallView) (moves : List Move) (n : ℕ) (before after : HallView) (each : All (λ h. h.workers ≡ w) halls) (low : n < length halls) (there : before ≡ get_or halls n before) where
  workers-at : before.workers ≡ w
  workers-at = subst (λ (h : HallView). h.workers ≡ w) (sym there) (each n before low)

  pub each-set : after.workers ≡ before.workers → All (λ h. h.workers ≡ w) (slice_set halls n after)
  each-set same = All-set (λ (h : HallView). h.workers ≡ w) halls n after (same ∙ workers-at) each

  pub cluster-set : cluster_of w (slice_set halls n after) moves ≡ with_hall (cluster_of w halls moves) n after.events
  cluster-set = ap (λ (hs : List (List Event)). let c : Cluster = record { workers = w; halls = hs; moves = moves } in c) (histories-at halls n after)

  pub called-at : (call : Call) (answer : AnswerTo call) → HasCalled before.workers before.events call answer after.events → HasCalledAt (cluster_of w halls moves) n call answer (cluster_of w (slice_set halls n after) moves)
  called-at call answer called = record {
    now = after.events;
    called = subst (λ (past : List Event). HasCalled w past call answer after.events) (sym (history-at halls n before low there)) (subst (λ (v : ℕ). HasCalled v before.events call answer after.events) workers-at called);
    kept = cluster-set;
  }

  pub call-at : (k : Key) (call : Call) (answer absent : AnswerTo call) → home k (histories halls) ≡ Some n → HasCalled before.workers before.events call answer after.events → IsCallAt (cluster_of w halls moves) (home k (histories halls)) call absent answer (cluster_of w (slice_set halls n after) moves)
  call-at k call answer absent found called = subst (λ (o : Option ℕ). IsCallAt (cluster_of w halls moves) o call absent answer (cluster_of w (slice_set halls n after) moves)) (sym found) (called-at call answer called)

-- no hall has the job
pub call-none : (c : Cluster) (k : Key) (call : Call) (absent : AnswerTo call) → home k c.halls ≡ None → IsCallAt c (home k c.halls) call absent absent c
call-none c k call absent none = subst (λ (o : Option ℕ). IsCallAt c o call absent absent c) (sym none) (refl, refl)

-- a cluster of which one hall was called
pub kept-set : (w : ℕ) (halls : List HallView) (moves : List Move) (n : ℕ) (before after : HallView) → IsKept w halls moves → n < length halls → before ≡ get_or halls n before → after.workers ≡ before.workers → IsCluster (cluster_of w (slice_set halls n after) moves) → IsKept w (slice_set halls n after) moves
kept-set w halls moves n before after kept low there same is = record { each = each-set w halls moves n before after kept.each low there same; cluster = is }

-- the place of the hall of a number
pub place-low : (hall : ℕ) (halls : List HallView) → 1 ≤ hall → hall ≤ length (histories halls) → hall - 1 < length halls
place-low hall halls low high = under hall (length halls) low (subst (λ (n : ℕ). hall ≤ n) (histories-length halls) high)
  where
    under : (m n : ℕ) → 1 ≤ m → m ≤ n → m - 1 < n
    under m n p q = omega arith

-- the calls that post
module _ (w : ℕ) (halls : List HallView) (moves : List Move) (n : ℕ) (before after : HallView) (k : Key) (kept : IsKept w halls moves) (low : n < length halls) (there : before ≡ get_or halls n before) where
  abbrev was : Cluster
  was = cluster_of w halls moves

  abbrev now : Cluster
  now = cluster_of w (slice_set halls n after) moves

  within : n < length (histories halls)
  within = subst (λ (m : ℕ). n < m) (sym (histories-length halls)) low

  at : (call : Call) (answer absent : AnswerTo call) → home k (histories halls) ≡ Some n → HasCalled before.workers before.events call answer after.events → IsCallAt was (home k (histories halls)) call absent answer now
  at = call-at w halls moves n before after kept.each low there k

  pub opened-at : (ask : Terms) (answer : Result (Unit {0}) OpenFault) → is_had k (histories halls) ≡ false → HasCalled before.workers before.events (Opens k ask) answer after.events → IsOpening was n k ask answer now
  opened-at ask answer fresh called = inr (record { fresh = fresh; called = called-at w halls moves n before after kept.each low there (Opens k ask) answer called })

  pub opened-kept : (ask : Terms) (answer : Result (Unit {0}) OpenFault) → is_had k (histories halls) ≡ false → after.workers ≡ before.workers → HasCalled before.workers before.events (Opens k ask) answer after.events → IsKept w (slice_set halls n after) moves
  opened-kept ask answer fresh same called = kept-set w halls moves n before after kept low there same (calls-keep.opening was now n k ask answer within kept.cluster (opened-at ask answer fresh called))

  pub revised-at : (r : Posted) (answer : Result (Unit {0}) ReviseFault) → home k (histories halls) ≡ Some n → HasCalled before.workers before.events (Revises k r) answer after.events → IsRevising was k r answer now
  revised-at r answer found called = at (Revises k r) answer (Err revising.NoJob) found called

  pub revised-kept : (r : Posted) (answer : Result (Unit {0}) ReviseFault) → home k (histories halls) ≡ Some n → after.workers ≡ before.workers → HasCalled before.workers before.events (Revises k r) answer after.events → IsKept w (slice_set halls n after) moves
  revised-kept r answer found same called = kept-set w halls moves n before after kept low there same (calls-keep.revising was now k r answer kept.cluster (revised-at r answer found called))

  pub reasked-at : (weight : Weighed) (answer : Result (Unit {0}) ReaskFault) → home k (histories halls) ≡ Some n → HasCalled before.workers before.events (Reasks k weight) answer after.events → IsReasking was k weight answer now
  reasked-at weight answer found called = at (Reasks k weight) answer (Err reasking.NoJob) found called

  pub reasked-kept : (weight : Weighed) (answer : Result (Unit {0}) ReaskFault) → home k (histories halls) ≡ Some n → after.workers ≡ before.workers → HasCalled before.workers before.events (Reasks k weight) answer after.events → IsKept w (slice_set halls n after) moves
  reasked-kept weight answer found same called = kept-set w halls moves n before after kept low there same (calls-keep.reasking was now k weight answer kept.cluster (reasked-at weight answer found called))

  pub closed-at : (answer : Result (Unit {0}) CloseFault) → home k (histories halls) ≡ Some n → HasCalled before.workers before.events (Closes k) answer after.events → IsClosing was k answer now
  closed-at answer found called = at (Closes k) answer (Err closing.NoJob) found called

  pub closed-kept : (answer : Result (Unit {0}) CloseFault) → home k (histories halls) ≡ Some n → after.workers ≡ before.workers → HasCalled before.workers before.events (Closes k) answer after.events → IsKept w (slice_set halls n after) moves
  closed-kept answer found same called = kept-set w halls moves n before after kept low there same (calls-keep.closing was now k answer kept.cluster (closed-at answer found called))

-- a job that is there is one of the states
pub there-job : (k : Key) (h : List Event) → is_there k h ≡ true → job_of k (states h) ≡ Some (titled h k)
there-job k h there = job_of-states h k ∙ ap (λ (b : Bool). cond b (Some (titled h k)) None) there

same-some : (t u : KeyedJob) → Some t ≡ Some u → t ≡ u
same-some t u q = cc

some-none : (t : KeyedJob) → Some t ≡ None → ⊥
some-none t q = cc

-- the reply of the hall that has a job
module _ (w : ℕ) (halls : List HallView) (moves : List Move) (n : ℕ) (hall : HallView) (k : Key) (r : ℕ) (kept : IsKept w halls moves) (found : home k (histories halls) ≡ Some n) (there : hall ≡ get_or halls n hall) where
  at-home : IsHome k (histories halls) n
  at-home = home-found k (histories halls) n found

  here : hall_at (histories halls) n ≡ hall.events
  here = history-at halls n hall (home-within k halls n found) there

  is-job : job_of k (states hall.events) ≡ Some (titled hall.events k)
  is-job = there-job k hall.events (ap (is_there k) (sym here) ∙ at-home.there)

  own-all : own k hall.events ≡ all_of k (histories halls) moves
  own-all = ap (own k) (sym here) ∙ own-is_all (cluster_of w halls moves) k n kept.cluster at-home.there

  is-some : is_some (home k (histories halls)) ≡ true
  is-some = ap (λ (o : Option ℕ). is_some o) found

  pub replied-at : (answer : Result (Option (List ℕ)) ReplyFault) → HasCalled hall.workers hall.events (Asks k r) answer hall.events → IsReply (cluster_of w halls moves) k r answer
  replied-at (Ok text) called =
      let t = called.call.0 in
      let same : t ≡ titled hall.events k = same-some t (titled hall.events k) (sym called.call.1 ∙ is-job) in
      (is-some, called.call.2 ∙ (ap (λ (x : KeyedJob). reply k r x.state) same ∙ ap (λ (es : List Own). reply k r (solo es)) own-all))
  replied-at (Err asking.NoJob) called = absurd (some-none (titled hall.events k) (sym is-job ∙ called.call.0))
  replied-at (Err asking.OutOfMemory) called = is-some
