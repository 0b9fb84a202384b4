-- A job that moves from one hall to another.
use Rattle.std.proofs.Common.{◌≡◌, ◌≢◌, ℕ, ◌+◌, ◌-◌, ◌<◌, ◌≤◌, Bool, true, false, cond, not, ◌||◌, ◌&&◌, ◌==◌, nat_lt, List, [], ◌∷◌, ◌++◌, length, get_or, slice_set, Some, None, Ok, Err, refl, sym, ◌∙◌, ap, ap₂, zero, suc, subst, arith, append-nil}
use Rattle.std.specs.Prelude.{OnErr, OnOk, Result, find, is_some}
use Rattle.std.specs.List.{list_any}
use Rattle.std.proofs.lemmas.Bool.{and_from, lt-ltb}
use Rattle.std.proofs.lemmas.Bool.Decides.{Decides-eqb}
use Rattle.std.proofs.lemmas.List.Sums.{sum_by-cons}
use Rattle.std.proofs.lemmas.List.{get_or-set_same, length-append, length-set, set-get_or}
use Rattle.mal_base.specs.Limits.{limits}
use Rattle.mal_base.specs.declared.hall_fault.AdmitFault.{AdmitFault}
use Rattle.mal_base.specs.declared.hall_fault.AdmitFault.TheVariants as admitting
use Rattle.mal_base.specs.declared.hall_fault.PackFault.TheVariants as packing
use Rattle.spec_node.specs.Load.{counted}
use Rattle.spec_job.specs.Counts.{starts_out}
use Rattle.spec_job.specs.KeyedJob.{Key, KeyedJob}
use Rattle.spec_job.specs.SoloMachine.{NodeSlot, Own, SoloMachine, place_at, solo, vacant}
use Rattle.spec_hall.specs.Calls.{Admits, HasCalled, IsAdmission, IsAdmitting, MayCome, Packs, first_out}
use Rattle.spec_hall.specs.Events.{Event, Arrive, Leave}
use Rattle.spec_hall.specs.Legal.{Legal, MayArrive, MayLeave, job_of, jobs_of, tenant_count}
use Rattle.spec_hall.specs.Own.{brought_by, is_key, own}
use Rattle.spec_hall.specs.States.{names_of, states, titled}
use Rattle.spec_hall.proofs.GoingLemmas.{home-places}
use Rattle.spec_hall.proofs.SpotLemmas.{set-there}
use Rattle.spec_hall.proofs.StatesLemmas.{job_of-found, job_of-states}
use Rattle.mal_hall.specs.HallView.{HallView}
use Rattle.spec_cluster.specs.declared.fault.MoveFault.TheVariants as moving
use Rattle.spec_cluster.specs.Calls.{IsMove, IsMoving, MayTry, went}
use Rattle.spec_cluster.specs.Clusters.{Cluster, home, is_named, is_there}
use Rattle.spec_cluster.specs.Rounds.{may_come}
use Rattle.spec_cluster.specs.Visits.{Move, hall_at}
use Rattle.spec_cluster.proofs.HallLemmas.{IsHome, home-found}
use Rattle.spec_cluster.proofs.MoveLemmas.{move-keeps}
use Rattle.spec_cluster.proofs.RoundLemmas.{comes-arrives}
use Rattle.mal_cluster.specs.Kept.{IsKept, cluster_of, histories}
use Rattle.mal_cluster.specs.Moving.{HasHanded, MayHand, SameWorkers, handed, refusal_of}
use Rattle.mal_cluster.proofs.KeptLemmas.{each-set, histories-at, histories-length, history-at, there-job}

-- a job that has room may come
pub may-come : (k : Key) (h : List Event) → MayCome h k → may_come k h ≡ true
may-come k h may = by_test (is_named k h) refl
  where
    by_none : (b : Bool) → (jobs_of k.tenant (names_of h) == 0) ≡ b → (not b || nat_lt (tenant_count (names_of h)) 64) ≡ true
    by_none false q = refl
    by_none true q = lt-ltb (tenant_count (names_of h)) 64 (may.hall_room ((Decides-eqb (jobs_of k.tenant (names_of h)) 0).0 q))

    by_test : (b : Bool) → is_named k h ≡ b → (b || (nat_lt (jobs_of k.tenant (names_of h)) 64 && (not (jobs_of k.tenant (names_of h) == 0) || nat_lt (tenant_count (names_of h)) 64))) ≡ true
    by_test true q = refl
    by_test false q = and_from _ _ (lt-ltb (jobs_of k.tenant (names_of h)) 64 (may.tenant_room q)) (by_none (jobs_of k.tenant (names_of h) == 0) refl)

-- one of the states is there
job-there : (k : Key) (h : List Event) (t : KeyedJob) → job_of k (states h) ≡ Some t → is_there k h ≡ true
job-there k h t found = by_test (is_there k h) refl
  where
    by_test : (b : Bool) → is_there k h ≡ b → b ≡ true
    by_test true q = refl
    by_test false q = absurd (none t (sym (job_of-states h k ∙ ap (λ (x : Bool). cond x (Some (titled h k)) None) q) ∙ found))
      where
        none : (u : KeyedJob) → None ≡ Some u → ⊥
        none u e = cc

-- numbers of halls, from 1, and places, from 0
less : (m n : ℕ) → m ≡ n + 1 → m - 1 ≡ n
less m n q = omega arith

some : (m n : ℕ) → m ≡ n + 1 → 1 ≤ m
some m n q = omega arith

most : (m n l : ℕ) → m ≡ n + 1 → n < l → m ≤ l
most m n l q low = omega arith

same-place : (m n l : ℕ) → m ≡ n + 1 → m ≡ l + 1 → n ≡ l
same-place m n l p q = omega arith

module _ (w : ℕ) (halls : List HallView) (moves : List Move) (k : Key) (from at to : ℕ) (kept : IsKept w halls moves) (found : home k (histories halls) ≡ Some from) (placed : (to ≡ at + 1) × (at < length halls) × (at ≢ from)) where
  abbrev c : Cluster
  c = cluster_of w halls moves

  abbrev hs : List (List Event)
  hs = histories halls

  here : IsHome k hs from
  here = home-found k hs from found

  within : at < length hs
  within = subst (λ (n : ℕ). at < n) (sym (histories-length halls)) placed.1

  back : to - 1 ≡ at
  back = less to at placed.0

  may-try : MayTry c k to from
  may-try = record { there = found; low = some to at placed.0; high = most to at (length hs) placed.0 within; other = λ q. placed.2 (same-place to at from placed.0 q) }

  module _ (hall : HallView) (there : hall ≡ get_or halls at hall) where
    there-is : hall_at hs (to - 1) ≡ hall.events
    there-is = ap (hall_at hs) back ∙ history-at halls at hall placed.1 there

    pub refused : (fault : AdmitFault) → IsAdmission hall.events k (Err fault) → IsMoving c k to (Err (refusal_of fault)) c
    refused admitting.Present is = absurd (placed.2 (kept.cluster.one_home k at from (ap (is_there k) (history-at halls at hall placed.1 there) ∙ job-there k hall.events is.0 is.1) here.there))
    refused admitting.TenantFull is = (from, record { may = may-try; fresh = ap (is_named k) there-is ∙ is.1; full = subst (λ (h : List Event). limits.jobs_of_tenant ≤ jobs_of k.tenant (names_of h)) (sym there-is) is.2 }, refl)
    refused admitting.HallFull is = (from, record { may = may-try; none = ap (λ (h : List Event). jobs_of k.tenant (names_of h)) there-is ∙ is.2; full = subst (λ (h : List Event). limits.tenants ≤ tenant_count (names_of h)) (sym there-is) is.3 }, refl)
    refused admitting.OutOfMemory is = absurd is

    pub may-hand : MayCome hall.events k → MayHand halls k from at
    may-hand may = record {
      here = subst (λ (n : ℕ). from < n) (histories-length halls) here.within;
      there = placed.1;
      other = placed.2;
      workers = w;
      some_worker = kept.cluster.some_worker;
      worker_bound = kept.cluster.worker_bound;
      legal = kept.cluster.legal from;
      leaves = (titled (hall_at hs from) k, record { job = there-job k (hall_at hs from) here.there; home = ap (list_any (λ l. is_key k l.key)) (kept.cluster.calm from) });
      comes = subst (λ (h : List Event). MayCome h k) (sym (history-at halls at hall placed.1 there)) may;
    }

    may-arrive : MayCome hall.events k → MayArrive (hall_at hs (to - 1)) k (brought_by k (hall_at hs from))
    may-arrive may = subst (λ (n : ℕ). MayArrive (hall_at hs n) k (brought_by k (hall_at hs from))) (sym back) (comes-arrives c k from at kept.cluster here.there placed.2 (may-come k (hall_at hs at) (subst (λ (h : List Event). MayCome h k) (sym (history-at halls at hall placed.1 there)) may)))

    -- memory ran out
    pub wanted : MayCome hall.events k → (now : List HallView) (noted : List Move) → histories now ≡ hs → noted ≡ moves → IsMoving c k to (Err moving.OutOfMemory) (cluster_of w now noted)
    wanted may now noted same old = (from, record { may = may-try; arrives = may-arrive may }, ap (λ (xs : List (List Event)). let x : Cluster = record { workers = w; halls = xs; moves = noted } in x) same ∙ ap (λ (ms : List Move). cluster_of w halls ms) old)

    pub wanted-kept : MayCome hall.events k → (now : List HallView) (noted : List Move) → SameWorkers halls now → histories now ≡ hs → noted ≡ moves → IsKept w now noted
    wanted-kept may now noted workers same old = record { each = workers w kept.each; cluster = move-keeps c (cluster_of w now noted) k to (Err moving.OutOfMemory) kept.cluster (wanted may now noted same old) }

    -- the job was handed over, and that is noted
    module _ (may : MayCome hall.events k) (now : List HallView) (old noted : List Move) (there-now : HallView) (n : ℕ) (has : HasHanded halls k from at now) (at-now : there-now ≡ get_or now at there-now) (same : old ≡ moves) (counts : n ≡ length there-now.events) (notes : noted ≡ old ++ record { key = k; visit = record { hall = at; from = n } } ∷ []) where
      abbrev left : List Event
      left = hall_at hs from ++ Leave k ∷ []

      abbrev came : List Event
      came = hall_at hs at ++ Arrive k (brought_by k (hall_at hs from)) ∷ []

      within-left : at < length (slice_set hs from left)
      within-left = subst (λ (m : ℕ). at < m) (sym (length-set hs from left)) within

      within-now : at < length now
      within-now = subst (λ (m : ℕ). at < m) (sym (length-set (slice_set hs from left) at came) ∙ (ap (λ (xs : List (List Event)). length xs) (sym has.went) ∙ histories-length now)) within-left

      count : n ≡ length (hall_at hs at) + 1
      count =
          counts
          ∙ (ap length (sym (history-at now at there-now within-now at-now) ∙ (ap (λ (xs : List (List Event)). hall_at xs at) has.went ∙ get_or-set_same (slice_set hs from left) at came [] within-left))
          ∙ length-append (hall_at hs at) (Arrive k (brought_by k (hall_at hs from)) ∷ []))

      went-at : cluster_of w now noted ≡ went k from at c
      went-at =
          ap (λ (xs : List (List Event)). let x : Cluster = record { workers = w; halls = xs; moves = noted } in x) has.went
          ∙ ap (λ (ms : List Move). let x : Cluster = record { workers = w; halls = handed k from at hs; moves = ms } in x) (notes ∙ (ap (λ (ms : List Move). let m : Move = record { key = k; visit = record { hall = at; from = n } } in ms ++ m ∷ []) same ∙ ap (λ (i : ℕ). let m : Move = record { key = k; visit = record { hall = at; from = i } } in moves ++ m ∷ []) count))

      pub moved : IsMove c k to from (cluster_of w now noted)
      moved = record { may = may-try; arrives = may-arrive may; went_on = went-at ∙ ap (λ (i : ℕ). went k from i c) (sym back) }

      pub moved-kept : SameWorkers halls now → IsKept w now noted
      moved-kept workers = record { each = workers w kept.each; cluster = move-keeps c (cluster_of w now noted) k to (Ok tt) kept.cluster (from, moved) }

-- a refusal enters nothing
refused-none : (past : List Event) (k : Key) (brought : List Own) (fault : AdmitFault) (es : List Event) → IsAdmitting past k brought (Err fault) es → es ≡ []
refused-none past k brought admitting.Present es is = is.1
refused-none past k brought admitting.TenantFull es is = is.1
refused-none past k brought admitting.HallFull es is = is.1
refused-none past k brought admitting.OutOfMemory es is = is.1

pub refused-same : (w : ℕ) (past now : List Event) (k : Key) (brought : List Own) (fault : AdmitFault) → HasCalled w past (Admits k brought) (Err fault) now → now ≡ past
refused-same w past now k brought fault called = called.grown ∙ (ap (λ (es : List Event). past ++ es) (refused-none past k brought fault called.events called.call) ∙ append-nil past)

-- a hall that did not change
pub histories-same : (halls : List HallView) (n : ℕ) (before after : HallView) → n < length halls → before ≡ get_or halls n before → after.events ≡ before.events → histories (slice_set halls n after) ≡ histories halls
histories-same halls n before after low there same =
    histories-at halls n after
    ∙ (ap (slice_set (histories halls) n) (same ∙ sym (history-at halls n before low there))
    ∙ set-get_or (histories halls) n [])

-- each hall has as many workers as before
pub workers-set : (halls : List HallView) (n : ℕ) (before after : HallView) → n < length halls → before ≡ get_or halls n before → after.workers ≡ before.workers → SameWorkers halls (slice_set halls n after)
workers-set halls n before after low there same w each = each-set w halls [] n before after each low there same

-- two places are set in either order
set-swap : {X : Type 0} (xs : List X) (m n : ℕ) (a b : X) → m ≢ n → slice_set (slice_set xs m a) n b ≡ slice_set (slice_set xs n b) m a
set-swap [] m n a b other = refl
set-swap (x ∷ xs) zero zero a b other = absurd (other refl)
set-swap (x ∷ xs) zero (suc n) a b other = refl
set-swap (x ∷ xs) (suc m) zero a b other = refl
set-swap {X} (x ∷ xs) (suc m) (suc n) a b other = ap (λ (ys : List X). x ∷ ys) (set-swap xs m n a b (λ q. other (ap suc q)))

-- where no start is out no place is
none-at : (ps : List NodeSlot) (i : ℕ) → starts_out ps ≡ 0 → is_some (get_or ps i vacant).out ≡ false
none-at [] i none = refl
none-at (p ∷ ps) i none = by_test (is_some p.out) refl (sym (sum_by-cons (λ (q : NodeSlot). cond (is_some q.out) 1 0) p ps) ∙ none) i (λ n e. none-at ps n e)
  where
    by_test : (b : Bool) → is_some p.out ≡ b → cond b 1 0 + starts_out ps ≡ 0 → (n : ℕ) → ((m : ℕ) → starts_out ps ≡ 0 → is_some (get_or ps m vacant).out ≡ false) → is_some (get_or (p ∷ ps) n vacant).out ≡ false
    by_test true q sum n rest = absurd (omega (arith, sum))
    by_test false q sum zero rest = q
    by_test false q sum (suc n) rest = rest n (omega (arith, sum))

none-found : (s : SoloMachine) (is : List ℕ) → starts_out s.places ≡ 0 → find (λ i. is_some (place_at s i).out) is ≡ None
none-found s [] none = refl
none-found s (i ∷ is) none = ap (λ (b : Bool). cond b (Some i) (find (λ n. is_some (place_at s n).out) is)) (none-at s.places i none) ∙ none-found s is none

-- a job that may leave and has room is packed and admitted, unless memory runs out
module _ (halls : List HallView) (k : Key) (from to : ℕ) (may : MayHand halls k from to) (hall : HallView) where
  module _ (here : hall ≡ get_or halls from hall) where
    past-is : hall_at (histories halls) from ≡ hall.events
    past-is = history-at halls from hall may.here here

    leaves : MayLeave hall.events k may.leaves.0
    leaves = subst (λ (h : List Event). MayLeave h k may.leaves.0) past-is may.leaves.1

    pub packs-there : (w : ℕ) (now : List Event) → HasCalled w hall.events (Packs k) (Err packing.NoJob) now → ⊥
    packs-there w now called = let bad : None ≡ Some may.leaves.0 = sym called.call.0 ∙ leaves.job in absurd (cc)

    pub packs-home : (w index : ℕ) (now : List Event) → HasCalled w hall.events (Packs k) (Err (packing.Out index)) now → ⊥
    packs-home w index now called =
        let none : starts_out (solo (own k hall.events)).places ≡ 0 = home-places may.workers hall.events k may.some_worker may.worker_bound (subst (Legal may.workers) past-is may.legal) leaves.home in
        let found : titled hall.events k ≡ called.call.0 = (job_of-found hall.events k called.call.0 called.call.1).machine in
        let bad : None ≡ Some index = sym (none-found (solo (own k hall.events)) (counted 0 64) none) ∙ (ap (λ (t : KeyedJob). first_out t.state) found ∙ called.call.2) in
        absurd (cc)

  module _ (there : hall ≡ get_or halls to hall) where
    comes : MayCome hall.events k
    comes = subst (λ (h : List Event). MayCome h k) (history-at halls to hall may.there there) may.comes

    admission-wanted : (fault : AdmitFault) → IsAdmission hall.events k (Err fault) → ⊥
    admission-wanted admitting.Present is = let bad : None ≡ Some is.0 = sym comes.absent ∙ is.1 in absurd (cc)
    admission-wanted admitting.TenantFull is = let low = comes.tenant_room is.1 in absurd (omega (arith, low, is.2))
    admission-wanted admitting.HallFull is = let low = comes.hall_room is.2 in absurd (omega (arith, low, is.3))
    admission-wanted admitting.OutOfMemory is = is

    pub admits-wanting : (w : ℕ) (key : Key) (brought : List Own) (fault : AdmitFault) (now : List Event) → key ≡ k → HasCalled w hall.events (Admits key brought) (Err fault) now → fault ≡ admitting.OutOfMemory
    admits-wanting w key brought fault now same called = by_fault fault (subst (λ (j : Key). IsAdmitting hall.events j brought (Err fault) called.events) same called.call)
      where
        by_fault : (f : AdmitFault) → IsAdmitting hall.events k brought (Err f) called.events → f ≡ admitting.OutOfMemory
        by_fault admitting.Present is = absurd (admission-wanted admitting.Present is.0)
        by_fault admitting.TenantFull is = absurd (admission-wanted admitting.TenantFull is.0)
        by_fault admitting.HallFull is = absurd (admission-wanted admitting.HallFull is.0)
        by_fault admitting.OutOfMemory is = refl

-- what holds whatever was answered, and what holds of an answer that never comes
pub on-err : {T E : Type 0} (P : Type 0) (r : Result T E) → P → OnErr r P
on-err P (Ok x) p = tt
on-err P (Err e) p = p

pub never-ok : {T E : Type 0} (P : Type 0) (r : Result T E) → OnOk r ⊥ → OnOk r P
never-ok P (Ok x) never = absurd never
never-ok P (Err e) never = tt

-- a job is admitted at one place, and then leaves at another
module _ (halls : List HallView) (k : Key) (from to : ℕ) (may : MayHand halls k from to) (before after mine gone : HallView) (there : before ≡ get_or halls to before) (here : mine ≡ get_or (slice_set halls to after) from mine) where
  abbrev mid : List HallView
  mid = slice_set halls to after

  low : from < length mid
  low = subst (λ (n : ℕ). from < n) (sym (length-set halls to after)) may.here

  pub handed-workers : after.workers ≡ before.workers → gone.workers ≡ mine.workers → SameWorkers halls (slice_set mid from gone)
  handed-workers a b w each = workers-set mid from mine gone low here b w (workers-set halls to before after may.there there a w each)

  mine-is : hall_at (histories halls) from ≡ mine.events
  mine-is = history-at halls from mine may.here (here ∙ set-there halls to from after mine may.other)

  module _ (packer : HallView) (key : Key) (own : List Own) (packs : packer ≡ get_or halls from packer) (brought : own ≡ brought_by k packer.events) (same : key ≡ k) (arrives : MayArrive before.events key own) (came : after.events ≡ before.events ++ Arrive key own ∷ []) (left : gone.events ≡ mine.events ++ Leave k ∷ []) where
    own-is : own ≡ brought_by k (hall_at (histories halls) from)
    own-is = brought ∙ ap (brought_by k) (sym (history-at halls from packer may.here packs))

    before-is : hall_at (histories halls) to ≡ before.events
    before-is = history-at halls to before may.there there

    came-is : after.events ≡ hall_at (histories halls) to ++ Arrive k (brought_by k (hall_at (histories halls) from)) ∷ []
    came-is = came ∙ ap₂ (λ (h : List Event) (e : Event). h ++ e ∷ []) (sym before-is) (ap₂ Arrive same own-is)

    left-is : gone.events ≡ hall_at (histories halls) from ++ Leave k ∷ []
    left-is = left ∙ ap (λ (h : List Event). h ++ Leave k ∷ []) (sym mine-is)

    pub handed-went : HasHanded halls k from to (slice_set mid from gone)
    handed-went = record {
      arrives = subst (λ (h : List Event). MayArrive h k (brought_by k (hall_at (histories halls) from))) (sym before-is) (subst (λ (os : List Own). MayArrive before.events k os) own-is (subst (λ (j : Key). MayArrive before.events j own) same arrives));
      went =
          histories-at mid from gone
          ∙ (ap (λ (hs : List (List Event)). slice_set hs from gone.events) (histories-at halls to after)
          ∙ (ap₂ (λ (a b : List Event). slice_set (slice_set (histories halls) to a) from b) came-is left-is
          ∙ set-swap (histories halls) to from _ _ may.other));
    }
