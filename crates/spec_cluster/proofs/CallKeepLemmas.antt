-- The calls of a cluster keep what holds of it.
use Rattle.std.proofs.Common.{◌≡◌, ℕ, zero, suc, ◌<◌, ◌≤◌, Bool, true, false, ◌||◌, List, [], ◌∷◌, ◌++◌, length, replicate, Option, Some, None, Result, Ok, Err, inl, inr, refl, sym, ◌∙◌, ap, subst, append-nil}
use Rattle.std.specs.List.{list_any}
use Rattle.std.proofs.lemmas.Bool.{both_ways, or_from}
use Rattle.std.proofs.lemmas.List.{length-replicate}
use Rattle.mal_base.specs.Asks.{Terms, Weighed}
use Rattle.mal_base.specs.declared.hall_fault.OpenFault.{OpenFault}
use Rattle.mal_base.specs.declared.hall_fault.OpenFault.TheVariants as opening
use Rattle.mal_base.specs.declared.hall_fault.ReviseFault.{ReviseFault}
use Rattle.mal_base.specs.declared.hall_fault.ReviseFault.TheVariants as revising
use Rattle.mal_base.specs.declared.hall_fault.ReaskFault.{ReaskFault}
use Rattle.mal_base.specs.declared.hall_fault.ReaskFault.TheVariants as reasking
use Rattle.mal_base.specs.declared.hall_fault.CloseFault.{CloseFault}
use Rattle.mal_base.specs.declared.hall_fault.CloseFault.TheVariants as closing
use Rattle.mal_revision.specs.Posted.{Posted}
use Rattle.spec_job.specs.KeyedJob.{Key}
use Rattle.spec_hall.specs.Calls.{AnswerTo, Call, Closes, IsCall, Opens, Reasks, Revises}
use Rattle.spec_hall.specs.Events.{Event, Close, Open, Reask, Revise, moves}
use Rattle.spec_hall.specs.Legal.{Legal}
use Rattle.spec_hall.specs.Own.{is_key}
use Rattle.spec_hall.specs.States.{leases, leases_step}
use Rattle.spec_hall.proofs.CallLemmas.{call-is_legal}
use Rattle.spec_hall.proofs.KeyLemmas.{is_key-Decides}
use Rattle.spec_hall.proofs.PushLemmas.{leases-push}
use Rattle.spec_cluster.specs.Calls.{HasCalledAt, IsCallAt}
use Rattle.spec_cluster.specs.Clusters.{Cluster, IsCluster, home, is_had, is_named, is_there, with_hall}
use Rattle.spec_cluster.specs.Laws.{CallsGrow, CallsHave, CallsKeep, HasGrown, NewIsCluster}
use Rattle.spec_cluster.specs.Visits.{hall_at, opens}
use Rattle.spec_cluster.proofs.GrowthLemmas.{growth-keeps}
use Rattle.spec_cluster.proofs.HallLemmas.{home-found}
use Rattle.spec_cluster.proofs.NameLemmas.{had-none}

-- events that a call enters after a history: no lease is out by them, no job moves, and only fresh jobs are opened
record IsPosted (c : Cluster) (n : ℕ) (es : List Event) : Type 0 where
  calm : leases (hall_at c.halls n ++ es) ≡ []
  still : list_any moves es ≡ false
  fresh : (k : Key) → list_any (opens k) es ≡ true → is_had k c.halls ≡ false

module _ (c : Cluster) (is : IsCluster c) (n : ℕ) where
  posted-none : (es : List Event) → es ≡ [] → IsPosted c n es
  posted-none es none = subst (IsPosted c n) (sym none) (record { calm = ap leases (append-nil (hall_at c.halls n)) ∙ is.calm n; still = refl; fresh = λ k opened. absurd (both_ways false refl opened) })

  posted-one : (es : List Event) (e : Event) → es ≡ e ∷ [] → leases_step (leases (hall_at c.halls n)) e ≡ leases (hall_at c.halls n) → moves e ≡ false → ((k : Key) → list_any (opens k) (e ∷ []) ≡ true → is_had k c.halls ≡ false) → IsPosted c n es
  posted-one es e one same still fresh = subst (IsPosted c n) (sym one) (record { calm = leases-push (hall_at c.halls n) e ∙ (same ∙ is.calm n); still = or_from (moves e) false still refl; fresh = fresh })

  none-opens : (k : Key) → false ≡ true → is_had k c.halls ≡ false
  none-opens k q = absurd (both_ways false refl q)

  -- what each kind of call enters
  open-posted : (k : Key) (ask : Terms) (answer : Result (Unit {0}) OpenFault) (es : List Event) → is_had k c.halls ≡ false → IsCall c.workers (hall_at c.halls n) (Opens k ask) answer es → IsPosted c n es
  open-posted k ask (Ok done) es fresh call = posted-one es (Open k ask) call.1 refl refl (λ j opened. subst (λ (x : Key). is_had x c.halls ≡ false) (sym ((is_key-Decides j k).0 (only (is_key j k) opened))) fresh)
    where
      only : (b : Bool) → (b || false) ≡ true → b ≡ true
      only true q = refl
      only false q = absurd (both_ways false refl q)
  open-posted k ask (Err opening.Duplicate) es fresh call = posted-none es call.1
  open-posted k ask (Err opening.TenantFull) es fresh call = posted-none es call.2
  open-posted k ask (Err opening.HallFull) es fresh call = posted-none es call.3
  open-posted k ask (Err opening.OutOfMemory) es fresh call = posted-none es call.1

  revise-posted : (k : Key) (r : Posted) (answer : Result (Unit {0}) ReviseFault) (es : List Event) → IsCall c.workers (hall_at c.halls n) (Revises k r) answer es → IsPosted c n es
  revise-posted k r (Ok done) es call = posted-one es (Revise k _ r) call.2 refl refl none-opens
  revise-posted k r (Err revising.NoJob) es call = posted-none es call.1
  revise-posted k r (Err revising.Closed) es call = posted-none es call.3
  revise-posted k r (Err revising.RevisionsFull) es call = posted-none es call.4
  revise-posted k r (Err (revising.JobFull which)) es call = posted-none es call.5
  revise-posted k r (Err revising.OutOfMemory) es call = posted-none es call.2

  reask-posted : (k : Key) (w : Weighed) (answer : Result (Unit {0}) ReaskFault) (es : List Event) → IsCall c.workers (hall_at c.halls n) (Reasks k w) answer es → IsPosted c n es
  reask-posted k w (Ok done) es call = posted-one es (Reask k w) call.2 refl refl none-opens
  reask-posted k w (Err reasking.NoJob) es call = posted-none es call.1
  reask-posted k w (Err reasking.Closed) es call = posted-none es call.3
  reask-posted k w (Err reasking.OutOfMemory) es call = posted-none es call.2

  close-posted : (k : Key) (answer : Result (Unit {0}) CloseFault) (es : List Event) → IsCall c.workers (hall_at c.halls n) (Closes k) answer es → IsPosted c n es
  close-posted k (Ok done) es call = posted-one es (Close k) call.2 refl refl none-opens
  close-posted k (Err closing.NoJob) es call = posted-none es call.1
  close-posted k (Err closing.Closed) es call = posted-none es call.3

  -- such a call grows it
  called-grows : (call : Call) (answer : AnswerTo call) (after : Cluster) → n < length c.halls → ((es : List Event) → IsCall c.workers (hall_at c.halls n) call answer es → IsPosted c n es) → HasCalledAt c n call answer after → HasGrown c after
  called-grows call answer after within posts at =
      let es = at.called.events in
      let posted = posts es at.called.call in
      inr (
        n,
        es,
        record {
          within = within;
          legal = call-is_legal c.workers (hall_at c.halls n) call answer es is.some_worker is.worker_bound (is.legal n) at.called.call;
          calm = posted.calm;
          still = posted.still;
          fresh = posted.fresh;
        },
        at.kept ∙ ap (with_hall c n) at.called.grown,
      )

-- so does one of the hall that has a job, or that none has
at-home-grows : (c after : Cluster) (k : Key) (call : Call) (answer absent : AnswerTo call) → IsCluster c → ((n : ℕ) (es : List Event) → IsCall c.workers (hall_at c.halls n) call answer es → IsPosted c n es) → IsCallAt c (home k c.halls) call absent answer after → HasGrown c after
at-home-grows c after k call answer absent is posts at = by_home (home k c.halls) refl at
  where
    by_home : (o : Option ℕ) → home k c.halls ≡ o → IsCallAt c o call absent answer after → HasGrown c after
    by_home None q called = inl called.1
    by_home (Some n) q called = called-grows c is n call answer after (home-found k c.halls n q).within (posts n) called

pub calls-grow : CallsGrow
calls-grow = record {
  opening = λ c after n k ask answer within is call. elim call [ inl had ↦ inl had.kept | inr new ↦ called-grows c is n (Opens k ask) answer after within (λ es. open-posted c is n k ask answer es new.fresh) new.called ];
  revising = λ c after k r answer is call. at-home-grows c after k (Revises k r) answer (Err revising.NoJob) is (λ n. revise-posted c is n k r answer) call;
  reasking = λ c after k w answer is call. at-home-grows c after k (Reasks k w) answer (Err reasking.NoJob) is (λ n. reask-posted c is n k w answer) call;
  closing = λ c after k answer is call. at-home-grows c after k (Closes k) answer (Err closing.NoJob) is (λ n. close-posted c is n k answer) call;
}

-- what a cluster that has grown has, calls have
pub calls-have : (R : Cluster → Cluster → Type 0) → ((c after : Cluster) → IsCluster c → HasGrown c after → R c after) → CallsHave R
calls-have R has = record {
  opening = λ c after n k ask answer within is call. has c after is (calls-grow.opening c after n k ask answer within is call);
  revising = λ c after k r answer is call. has c after is (calls-grow.revising c after k r answer is call);
  reasking = λ c after k w answer is call. has c after is (calls-grow.reasking c after k w answer is call);
  closing = λ c after k answer is call. has c after is (calls-grow.closing c after k answer is call);
}

pub calls-keep : CallsKeep
calls-keep = calls-have (λ c after. IsCluster after) keeps
  where
    keeps : (c after : Cluster) → IsCluster c → HasGrown c after → IsCluster after
    keeps c after is grew = elim grew [ inl same ↦ subst IsCluster (sym same) is | inr more ↦ subst IsCluster (sym more.3) (growth-keeps c more.0 more.1 is more.2) ]

-- halls in which nothing has happened
pub empty-at : (n m : ℕ) → hall_at (replicate n []) m ≡ []
empty-at zero m = refl
empty-at (suc n) zero = refl
empty-at (suc n) (suc m) = empty-at n m

pub new-is_cluster : NewIsCluster
new-is_cluster halls workers few bound some most = record {
  few = subst (λ (n : ℕ). 2 ≤ n) (sym (length-replicate halls [])) few;
  bound = subst (λ (n : ℕ). n ≤ 8) (sym (length-replicate halls [])) bound;
  some_worker = some;
  worker_bound = most;
  legal = λ n. subst (Legal workers) (sym (empty-at halls n)) tt;
  calm = λ n. ap leases (empty-at halls n);
  one_home = λ k m n a b. absurd (both_ways false refl (sym (ap (is_there k) (empty-at halls m)) ∙ a));
  one_opening = λ k m n a b. absurd (both_ways false refl (sym (ap (list_any (opens k)) (empty-at halls m)) ∙ a));
  at_home = λ k n a. absurd (both_ways false refl (sym (ap (is_there k) (empty-at halls n)) ∙ a));
  unknown = λ k none. record { fresh = had-none k (replicate halls []) (λ n. ap (is_named k) (empty-at halls n)); still = refl };
}
