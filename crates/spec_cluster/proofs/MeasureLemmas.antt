-- A round in which a job is live leaves the jobs less to run.
use Rattle.std.proofs.Common.{◌≡◌, ◌≢◌, ℕ, zero, suc, ◌+◌, ◌<◌, ◌≤◌, Bool, true, false, cond, not, ◌||◌, ◌==◌, List, [], ◌∷◌, ◌++◌, length, map, slice_set, sum_by, Option, Some, inl, inr, refl, sym, ◌∙◌, ap, subst, arith, append_assoc, append-nil}
use Rattle.std.specs.List.{list_all, list_any}
use Rattle.std.proofs.lemmas.Bool.{and_parts, both_ways, or_cases, or_parts}
use Rattle.std.proofs.lemmas.List.{get_or-set_other, length-set}
use Rattle.std.proofs.lemmas.List.Sums.{sum_by-cons}
use Rattle.mal_base.specs.Asks.{Terms}
use Rattle.spec_job.specs.KeyedJob.{Key, KeyedJob}
use Rattle.spec_job.specs.Left.{left_of}
use Rattle.spec_job.specs.SoloMachine.{Own, Volume, Exchanged, SoloMachine, is_live, solo}
use Rattle.spec_hall.specs.Calls.{arranges}
use Rattle.spec_hall.specs.Driven.{is_done}
use Rattle.spec_hall.specs.Events.{Event, Open, Revise, Reask, Close, Balance, Start, Finish, Exchange, Leave, Arrive}
use Rattle.spec_hall.specs.Legal.{Legal, MayArrive}
use Rattle.spec_hall.specs.Measure.{left_among}
use Rattle.spec_hall.specs.Own.{brought_by, is_key, own, own_step, volume_in}
use Rattle.spec_hall.specs.States.{Live, keys_of, keys_step, leases, live_of, live_ones, lives, states, titled}
use Rattle.spec_hall.specs.Turns.{HasWaited, TakesTurn, first_live}
use Rattle.spec_hall.proofs.GoesOnLemmas.{end-answered, idle-answered}
use Rattle.spec_hall.proofs.GoingLemmas.{brought-is}
use Rattle.spec_hall.proofs.KeyLemmas.{AreApart, is_key-Decides}
use Rattle.spec_hall.proofs.OrderlyLemmas.{legal-orderly}
use Rattle.spec_hall.proofs.PushLemmas.{adds-keeps, adds_volume-keeps, keys-push, own-push, solo-push}
use Rattle.spec_hall.proofs.SlicedLemmas.{slice-among, wait-among}
use Rattle.spec_hall.proofs.StatesLemmas.{job_of-absent}
use Rattle.spec_hall.proofs.TouchLemmas.{jobs_without, states-arrive, states-leave}
use Rattle.spec_hall.proofs.TurnLemmas.{due-leases, due-legal}
use Rattle.spec_cluster.specs.Calls.{went}
use Rattle.spec_cluster.specs.Clusters.{Cluster, IsCluster, is_there}
use Rattle.spec_cluster.specs.Laws.{RoundsEnd}
use Rattle.spec_cluster.specs.Rounds.{AllTurn, carried, goes, left_over, next_hall}
use Rattle.spec_cluster.specs.Visits.{hall_at}
use Rattle.spec_cluster.proofs.GoesLemmas.{next-within}
use Rattle.spec_cluster.proofs.RoundLemmas.{all-there, all-turn_keep, by-goes, carried-has, going, next-away}
use Rattle.spec_cluster.proofs.TurnLemmas.{IsTurned, slice-turned}

-- how many slices the jobs of a hall may still run
abbrev pub left_at : List Event → ℕ
left_at h = left_among (states h)

among-cons : (t : KeyedJob) (ts : List KeyedJob) → left_among (t ∷ ts) ≡ left_of t.state + left_among ts
among-cons t ts = sum_by-cons (λ (x : KeyedJob). left_of x.state) t ts

among-push : (ts : List KeyedJob) (t : KeyedJob) → left_among (ts ++ t ∷ []) ≡ left_among ts + left_of t.state
among-push [] t = omega (arith, among-cons t [])
among-push (x ∷ xs) t = omega (arith, among-cons x (xs ++ t ∷ []), among-push xs t, among-cons x xs)

-- the jobs without one that is not among them, and without one that is
without-absent : (h : List Event) (k : Key) (ks : List Key) → list_any (is_key k) ks ≡ false → jobs_without k (map (titled h) ks) ≡ map (titled h) ks
without-absent h k [] absent = refl
without-absent h k (x ∷ xs) absent =
    let parts = or_parts (is_key k x) (list_any (is_key k) xs) absent in
    ap (λ (b : Bool). cond (not b) (titled h x ∷ jobs_without k (map (titled h) xs)) (jobs_without k (map (titled h) xs))) parts.0
    ∙ ap (λ (ts : List KeyedJob). titled h x ∷ ts) (without-absent h k xs parts.1)

without-left : (h : List Event) (k : Key) (ks : List Key) → AreApart ks → list_any (is_key k) ks ≡ true → left_among (jobs_without k (map (titled h) ks)) + left_of (solo (own k h)) ≡ left_among (map (titled h) ks)
without-left h k [] apart there = absurd (both_ways false refl there)
without-left h k (x ∷ xs) apart there = by_key (is_key k x) refl there (λ more. without-left h k xs apart.1 more)
  where
    by_key : (b : Bool) → is_key k x ≡ b → (b || list_any (is_key k) xs) ≡ true → (list_any (is_key k) xs ≡ true → left_among (jobs_without k (map (titled h) xs)) + left_of (solo (own k h)) ≡ left_among (map (titled h) xs)) → left_among (cond (not b) (titled h x ∷ jobs_without k (map (titled h) xs)) (jobs_without k (map (titled h) xs))) + left_of (solo (own k h)) ≡ left_among (map (titled h) (x ∷ xs))
    by_key true q some rest =
        let same : k ≡ x = (is_key-Decides k x).0 q in
        let absent : list_any (is_key k) xs ≡ false = subst (λ (y : Key). list_any (is_key y) xs ≡ false) (sym same) apart.0 in
        let others : left_among (jobs_without k (map (titled h) xs)) ≡ left_among (map (titled h) xs) = ap left_among (without-absent h k xs absent) in
        let mine : left_of (solo (own k h)) ≡ left_of (solo (own x h)) = ap (λ (y : Key). left_of (solo (own y h))) same in
        omega (arith, others, mine, among-cons (titled h x) (map (titled h) xs))
    by_key false q some rest = omega (arith, rest some, among-cons (titled h x) (map (titled h) xs), among-cons (titled h x) (jobs_without k (map (titled h) xs)))

-- a sum with another history in a hall
sum-set : (hs : List (List Event)) (n : ℕ) (h : List Event) → n < length hs → sum_by left_at (slice_set hs n h) + left_at (hall_at hs n) ≡ sum_by left_at hs + left_at h
sum-set [] n h within = absurd (omega (arith, within))
sum-set (x ∷ xs) zero h within = omega (arith, sum_by-cons left_at x xs, sum_by-cons left_at h xs)
sum-set (x ∷ xs) (suc n) h within = omega (arith, sum-set xs n h (omega (arith, within)), sum_by-cons left_at x xs, sum_by-cons left_at x (slice_set xs n h))

-- a move leaves as much
pub went-left : (c : Cluster) (k : Key) (a b : ℕ) → IsCluster c → is_there k (hall_at c.halls a) ≡ true → a < length c.halls → b < length c.halls → b ≢ a → MayArrive (hall_at c.halls b) k (brought_by k (hall_at c.halls a)) → left_over (went k a b c) ≡ left_over c
went-left c k a b is there low within other may = omega (arith, first, second, before, gone, came)
  where
    here : List Event
    here = hall_at c.halls a

    to : List Event
    to = hall_at c.halls b

    left : List Event
    left = here ++ Leave k ∷ []

    come : List Event
    come = to ++ Arrive k (brought_by k here) ∷ []

    mids : List (List Event)
    mids = slice_set c.halls a left

    first : sum_by left_at mids + left_at here ≡ sum_by left_at c.halls + left_at left
    first = sum-set c.halls a left low

    second : sum_by left_at (slice_set mids b come) + left_at (hall_at mids b) ≡ sum_by left_at mids + left_at come
    second = sum-set mids b come (subst (λ (n : ℕ). b < n) (sym (length-set c.halls a left)) within)

    before : left_at (hall_at mids b) ≡ left_at to
    before = ap left_at (get_or-set_other c.halls a b left [] other)

    gone : left_at left + left_of (solo (own k here)) ≡ left_at here
    gone = ap (λ (ts : List KeyedJob). left_among ts + left_of (solo (own k here))) (states-leave here k) ∙ without-left here k (keys_of here) (legal-orderly c.workers here (is.legal a)).apart there

    came : left_at come ≡ left_at to + left_of (solo (own k here))
    came =
        ap left_among (states-arrive to k (brought_by k here) (job_of-absent to k may.absent))
        ∙ (among-push (states to) (record { key = k; state = solo (brought_by k here) })
        ∙ ap (λ (s : SoloMachine). left_among (states to) + left_of s) (brought-is k here))

pub goes-left : (c : Cluster) (k : Key) (from : ℕ) → IsCluster c → is_there k (hall_at c.halls from) ≡ true → left_over (goes (Some k) from c) ≡ left_over c
goes-left c k from is there = by-goes c k from is there (λ d. left_over d ≡ left_over c) refl (λ may. went-left c k from (next_hall from c) is there (going c k from is there).within (next-within c from is) (next-away c k from is there) may)

-- what is due leaves each job as live as before
record LivesAs (es fs : List Own) : Type 0 where
  live : is_live (solo fs) ≡ is_live (solo es)
  ask : (solo fs).ask ≡ (solo es).ask

lives-self : (es : List Own) → LivesAs es es
lives-self es = record { live = refl; ask = refl }

volume-lives : (es : List Own) (v : ℕ) → LivesAs es (es ++ Volume v ∷ [])
volume-lives es v = record { live = ap is_live (solo-push es (Volume v)); ask = ap (λ (s : SoloMachine). s.ask) (solo-push es (Volume v)) }

exchange-lives : (es : List Own) → LivesAs es (es ++ Exchanged ∷ [])
exchange-lives es = record { live = ap is_live (solo-push es Exchanged); ask = ap (λ (s : SoloMachine). s.ask) (solo-push es Exchanged) }

arranged-lives : (j : Key) (es : List Own) (e : Event) → arranges e ≡ true → LivesAs es (own_step j es e)
arranged-lives j es (Open k ask) q = absurd (both_ways false refl q)
arranged-lives j es (Revise k number r) q = absurd (both_ways false refl q)
arranged-lives j es (Reask k weight) q = absurd (both_ways false refl q)
arranged-lives j es (Close k) q = absurd (both_ways false refl q)
arranged-lives j es (Balance shares) q = adds_volume-keeps (LivesAs es) (volume_in j shares) es (lives-self es) (volume-lives es (volume_in j shares))
arranged-lives j es (Start k index worker) q = absurd (both_ways false refl q)
arranged-lives j es (Finish k index worker outcome) q = absurd (both_ways false refl q)
arranged-lives j es (Exchange k) q = adds-keeps (LivesAs es) (is_key j k) es Exchanged (lives-self es) (λ mine. exchange-lives es)
arranged-lives j es (Leave k) q = absurd (both_ways false refl q)
arranged-lives j es (Arrive k brought) q = absurd (both_ways false refl q)

arranged-keys : (ks : List Key) (e : Event) → arranges e ≡ true → keys_step ks e ≡ ks
arranged-keys ks (Open k ask) q = absurd (both_ways false refl q)
arranged-keys ks (Revise k number r) q = refl
arranged-keys ks (Reask k weight) q = refl
arranged-keys ks (Close k) q = refl
arranged-keys ks (Balance shares) q = refl
arranged-keys ks (Start k index worker) q = refl
arranged-keys ks (Finish k index worker outcome) q = refl
arranged-keys ks (Exchange k) q = refl
arranged-keys ks (Leave k) q = absurd (both_ways false refl q)
arranged-keys ks (Arrive k brought) q = absurd (both_ways false refl q)

titled-lives : (h now : List Event) (ks : List Key) → ((j : Key) → LivesAs (own j h) (own j now)) → lives (map (titled now) ks) ≡ lives (map (titled h) ks)
titled-lives h now [] same = refl
titled-lives h now (k ∷ ks) same = by_live (is_live (solo (own k h))) (is_live (solo (own k now))) (same k).live (titled-lives h now ks same)
  where
    one : live_of (titled now k) ≡ live_of (titled h k)
    one = ap (λ (a : Terms). let l : Live = record { key = k; priority = a.priority; demand = a.demand } in l) (same k).ask

    by_live : (b c : Bool) → c ≡ b → lives (map (titled now) ks) ≡ lives (map (titled h) ks) → map live_of (cond c (titled now k ∷ live_ones (map (titled now) ks)) (live_ones (map (titled now) ks))) ≡ map live_of (cond b (titled h k ∷ live_ones (map (titled h) ks)) (live_ones (map (titled h) ks)))
    by_live true true q rest = ap (λ (l : Live). l ∷ lives (map (titled now) ks)) one ∙ ap (λ (ls : List Live). live_of (titled h k) ∷ ls) rest
    by_live true false q rest = absurd (both_ways false refl q)
    by_live false true q rest = absurd (both_ways false refl (sym q))
    by_live false false q rest = rest

arranged-live : (h : List Event) (e : Event) → arranges e ≡ true → lives (states (h ++ e ∷ [])) ≡ lives (states h)
arranged-live h e q =
    ap (λ (ks : List Key). lives (map (titled (h ++ e ∷ [])) ks)) (keys-push h e ∙ arranged-keys (keys_of h) e q)
    ∙ titled-lives h (h ++ e ∷ []) (keys_of h) (λ j. subst (LivesAs (own j h)) (sym (own-push j h e)) (arranged-lives j (own j h) e q))

due-live : (past es : List Event) → list_all arranges es ≡ true → lives (states (past ++ es)) ≡ lives (states past)
due-live past [] all = ap (λ (h : List Event). lives (states h)) (append-nil past)
due-live past (e ∷ es) all =
    let parts = and_parts (arranges e) (list_all arranges es) all in
    ap (λ (h : List Event). lives (states h)) (sym (append_assoc past (e ∷ []) es)) ∙ (due-live (past ++ e ∷ []) es parts.1 ∙ arranged-live past e parts.0)

module _ (w : ℕ) (some : 1 ≤ w) (most : w ≤ 64) where
  -- a hall whose worker gets no lease has no live job
  pub wait-answered : (past now : List Event) → Legal w past → leases past ≡ [] → HasWaited w past now → lives (states past) ≡ []
  wait-answered past now legal home waited = elim waited [
    | inl idle ↦
        sym (due-live past idle.events idle.call.due.kinds)
        ∙ idle-answered w (past ++ idle.events) some most (due-legal w past idle.events legal idle.call.due) (due-leases past idle.events idle.call.due.kinds ∙ home) idle.call.idle.calm.balance idle.call.idle.none
    | inr done ↦ end-answered w past some most legal home (inl (and_parts (is_done (states past)) (length (leases past) == 0) done.call.0).0)
  ]

  -- a turn leaves no more, and less where a job is live
  pub turn-low : (n : ℕ) (past now : List Event) → Legal w past → leases past ≡ [] → TakesTurn w n past now → left_at now ≤ left_at past
  turn-low zero past now legal home turn = let same : left_at now ≡ left_at past = ap left_at turn in omega (arith, same)
  turn-low (suc n) past now legal home turn = elim turn [
    | inl waited ↦ (let same : left_at now ≡ left_at past = wait-among w past now some legal waited in omega (arith, same))
    | inr more ↦ (let mid : IsTurned w past more.0 = slice-turned w some most past more.0 more.1 legal home in omega (arith, slice-among w past more.0 some most legal home more.1, turn-low n more.0 now mid.legal mid.calm more.2))
  ]

  pub turn-less : (n : ℕ) (past now : List Event) → 1 ≤ n → Legal w past → leases past ≡ [] → TakesTurn w n past now → not (length (lives (states past)) == 0) ≡ true → left_at now < left_at past
  turn-less zero past now low legal home turn live = absurd (omega (arith, low))
  turn-less (suc n) past now low legal home turn live = elim turn [
    | inl waited ↦ absurd (both_ways (not (length (lives (states past)) == 0)) (ap (λ (ls : List Live). not (length ls == 0)) (wait-answered past now legal home waited)) live)
    | inr more ↦ (let mid : IsTurned w past more.0 = slice-turned w some most past more.0 more.1 legal home in omega (arith, slice-among w past more.0 some most legal home more.1, turn-low n more.0 now mid.legal mid.calm more.2))
  ]

  -- so do the turns of all
  abbrev AreCalm : List (List Event) → Type 0
  AreCalm hs = (n : ℕ) → Legal w (hall_at hs n) × (leases (hall_at hs n) ≡ [])

  turns-low : (n : ℕ) (pasts nows : List (List Event)) → AreCalm pasts → AllTurn w n pasts nows → sum_by left_at nows ≤ sum_by left_at pasts
  turns-low n [] [] calm turns = omega arith
  turns-low n [] (now ∷ nows) calm turns = absurd turns
  turns-low n (past ∷ pasts) [] calm turns = absurd turns
  turns-low n (past ∷ pasts) (now ∷ nows) calm turns = omega (arith, turn-low n past now (calm 0).0 (calm 0).1 turns.0, turns-low n pasts nows (λ m. calm (suc m)) turns.1, sum_by-cons left_at past pasts, sum_by-cons left_at now nows)

  turns-less : (n : ℕ) (pasts nows : List (List Event)) → 1 ≤ n → AreCalm pasts → AllTurn w n pasts nows → list_any (λ h. not (length (lives (states h)) == 0)) pasts ≡ true → sum_by left_at nows < sum_by left_at pasts
  turns-less n [] nows low calm turns live = absurd (both_ways false refl live)
  turns-less n (past ∷ pasts) [] low calm turns live = absurd turns
  turns-less n (past ∷ pasts) (now ∷ nows) low calm turns live = elim (or_cases (not (length (lives (states past)) == 0)) (list_any (λ h. not (length (lives (states h)) == 0)) pasts) live) [
    | inl here ↦ omega (arith, turn-less n past now low (calm 0).0 (calm 0).1 turns.0 here, turns-low n pasts nows (λ m. calm (suc m)) turns.1, sum_by-cons left_at past pasts, sum_by-cons left_at now nows)
    | inr there ↦ omega (arith, turn-low n past now (calm 0).0 (calm 0).1 turns.0, turns-less n pasts nows low (λ m. calm (suc m)) turns.1 there, sum_by-cons left_at past pasts, sum_by-cons left_at now nows)
  ]

-- a round leaves less where a job is live
pub carried-left : (chosen : List (Option Key)) (c : Cluster) → IsCluster c → chosen ≡ map first_live c.halls → left_over (carried chosen 0 c) ≡ left_over c
carried-left chosen c is same =
    ap (λ (ks : List (Option Key)). left_over (carried ks 0 c)) same
    ∙ carried-has (λ d. left_over d ≡ left_over c) (λ d k from ok there h. goes-left d k from ok there ∙ h) (map first_live c.halls) 0 c is (all-there c) refl

pub rounds-end : RoundsEnd
rounds-end every c after low is live round =
    let mid : Cluster = record c { halls = round.mids } in
    let turned : IsCluster mid = all-turn_keep c every round.mids is round.turned in
    let less : left_over mid < left_over c = turns-less c.workers is.some_worker is.worker_bound every c.halls round.mids low (λ n. (is.legal n, is.calm n)) round.turned live in
    let same : left_over after ≡ left_over mid = ap left_over round.moved ∙ carried-left (map first_live round.mids) mid turned refl in
    omega (arith, less, same)
