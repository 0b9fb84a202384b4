-- The job of a key in a script and in the halls that the jobs are dealt to, and the cluster that got them all.
use Rattle.std.proofs.Common.{◌≡◌, ℕ, zero, suc, ◌+◌, ◌%◌, ◌≤◌, Bool, true, false, cond, ◌||◌, ◌==◌, List, [], ◌∷◌, ◌++◌, filter, length, map, flat_map, replicate, slice_get, slice_set, Some, refl, sym, ◌∙◌, ap, subst, arith, append_assoc, append-nil}
use Rattle.std.specs.List.{list_any}
use Rattle.std.proofs.lemmas.Bool.{both_ways, false_from_ne_true, or_from, or_parts}
use Rattle.std.proofs.lemmas.Bool.Decides.{Decides-eqb}
use Rattle.std.proofs.lemmas.List.Elements.{filter-append}
use Rattle.std.proofs.lemmas.List.Folds.{list_any-append}
use Rattle.spec_node.specs.Load.{counted}
use Rattle.spec_job.specs.KeyedJob.{Key}
use Rattle.spec_hall.specs.Events.{Event, moves}
use Rattle.spec_hall.specs.Own.{is_key}
use Rattle.spec_hall.specs.Legal.{Legal}
use Rattle.spec_hall.specs.States.{leases}
use Rattle.spec_hall.proofs.KeyLemmas.{is_key-Decides, is_key-same}
use Rattle.spec_run.specs.Complete.{job_events, key_of_job, open_events, script_events}
use Rattle.spec_run.proofs.HomeLemmas.{script-home}
use Rattle.spec_run.proofs.KeyLemmas.{among-keys}
use Rattle.spec_run.proofs.OpenLemmas.{IsApart, IsPart, part-of}
use Rattle.spec_run.proofs.StayLemmas.{jobs-stay}
use Rattle.spec_script.specs.Formed.{IsScript, MayAllFollow}
use Rattle.mal_base.specs.Limits.{limits}
use Rattle.spec_script.specs.Script.{ScriptedJob, Scripted}
use Rattle.spec_cluster.specs.Clusters.{Cluster, IsCluster, is_had, is_named}
use Rattle.spec_cluster.specs.Laws.{Grows, PostedIsCluster}
use Rattle.spec_cluster.specs.Run.{dealt_from, posted}
use Rattle.spec_cluster.specs.Visits.{hall_at, opens}
use Rattle.spec_cluster.proofs.CallKeepLemmas.{new-is_cluster}
use Rattle.spec_cluster.proofs.DealtLemmas.{dealt-is_script}
use Rattle.spec_cluster.proofs.GrowthLemmas.{growth-keeps}
use Rattle.spec_cluster.proofs.NameLemmas.{named-by, unnamed-open}
use Rattle.spec_cluster.proofs.RoundLemmas.{front-at, front-set, front-within}
use Rattle.spec_cluster.proofs.ScriptLemmas.{script-legal}
use Rattle.spec_cluster.proofs.TakenLemmas.{script-named}

-- the jobs of a key among jobs
abbrev pub of_key : Key → List ScriptedJob → List ScriptedJob
of_key k js = filter (λ j. is_key k (key_of_job j)) js

none-of_key : (k : Key) (js : List ScriptedJob) → IsApart k js → of_key k js ≡ []
none-of_key k [] none = refl
none-of_key k (x ∷ xs) none =
    let parts = or_parts (is_key k (key_of_job x)) (list_any (λ j. is_key k (key_of_job j)) xs) none in
    ap (λ (b : Bool). cond b (x ∷ of_key k xs) (of_key k xs)) parts.0 ∙ none-of_key k xs parts.1

-- where there are none, the key is not among those of the jobs
pub apart-of_key : (k : Key) (js : List ScriptedJob) → of_key k js ≡ [] → IsApart k js
apart-of_key k [] none = refl
apart-of_key k (x ∷ xs) none = by_test (is_key k (key_of_job x)) none (apart-of_key k xs)
  where
    by_test : (b : Bool) → cond b (x ∷ of_key k xs) (of_key k xs) ≡ [] → (of_key k xs ≡ [] → IsApart k xs) → (b || list_any (λ j. is_key k (key_of_job j)) xs) ≡ false
    by_test true q rest = absurd (cc)
    by_test false q rest = rest q

pub there-of_key : (k : Key) (js : List ScriptedJob) (j : ScriptedJob) → of_key k js ≡ j ∷ [] → list_any (λ i. is_key k (key_of_job i)) js ≡ true
there-of_key k [] j one = absurd (cc)
there-of_key k (x ∷ xs) j one = by_test (is_key k (key_of_job x)) one (there-of_key k xs j)
  where
    by_test : (b : Bool) → cond b (x ∷ of_key k xs) (of_key k xs) ≡ j ∷ [] → (of_key k xs ≡ j ∷ [] → list_any (λ i. is_key k (key_of_job i)) xs ≡ true) → (b || list_any (λ i. is_key k (key_of_job i)) xs) ≡ true
    by_test true q rest = refl
    by_test false q rest = rest q

-- a job of a list, with those before it and those after it
pub record IsBetween {X : Type 0} (xs : List X) (x : X) : Type 0 where
  pub before : List X
  pub after : List X
  pub parts : xs ≡ before ++ x ∷ after

pub between-at : {X : Type 0} (xs : List X) (i : ℕ) (x : X) → slice_get xs i ≡ Some x → IsBetween xs x
between-at [] i x at = absurd (cc)
between-at {X} (y ∷ ys) zero x at = let same : y ≡ x = cc in record { before = []; after = ys; parts = ap (λ (z : X). z ∷ ys) same }
between-at {X} (y ∷ ys) (suc i) x at = let rest = between-at ys i x at in record { before = y ∷ rest.before; after = rest.after; parts = ap (λ (zs : List X). y ∷ zs) rest.parts }

-- a script has one job of the key of each of its jobs
between-one : (s : Scripted) (j : ScriptedJob) → IsScript limits s → IsBetween s.jobs j → of_key (key_of_job j) s.jobs ≡ j ∷ []
between-one s j formed is =
    let k = key_of_job j in
    let part : IsPart is.before j is.after = part-of limits is.before j is.after (subst (MayAllFollow limits []) is.parts formed) in
    ap (of_key k) is.parts
    ∙ (filter-append (λ i. is_key k (key_of_job i)) is.before (j ∷ is.after)
    ∙ (ap (λ (js : List ScriptedJob). js ++ of_key k (j ∷ is.after)) (none-of_key k is.before part.first)
    ∙ (ap (λ (b : Bool). cond b (j ∷ of_key k is.after) (of_key k is.after)) (is_key-same k)
    ∙ ap (λ (js : List ScriptedJob). j ∷ js) (none-of_key k is.after part.last))))

pub one-of_key : (s : Scripted) (i : ℕ) (j : ScriptedJob) → IsScript limits s → slice_get s.jobs i ≡ Some j → of_key (key_of_job j) s.jobs ≡ j ∷ []
one-of_key s i j formed at = between-one s j formed (between-at s.jobs i j at)

-- so has it of each key of its jobs
record IsOne (k : Key) (js : List ScriptedJob) : Type 0 where
  job : ScriptedJob
  is : of_key k js ≡ job ∷ []

between-key : (k : Key) (js : List ScriptedJob) → list_any (λ i. is_key k (key_of_job i)) js ≡ true → (j : ScriptedJob) × IsBetween js j × (k ≡ key_of_job j)
between-key k [] there = absurd (both_ways false refl there)
between-key k (x ∷ xs) there = by_test (is_key k (key_of_job x)) refl there (between-key k xs)
  where
    by_test : (b : Bool) → is_key k (key_of_job x) ≡ b → (b || list_any (λ i. is_key k (key_of_job i)) xs) ≡ true → (list_any (λ i. is_key k (key_of_job i)) xs ≡ true → (j : ScriptedJob) × IsBetween xs j × (k ≡ key_of_job j)) → (j : ScriptedJob) × IsBetween (x ∷ xs) j × (k ≡ key_of_job j)
    by_test true q h rest = (x, record { before = []; after = xs; parts = refl }, (is_key-Decides k (key_of_job x)).0 q)
    by_test false q h rest = let r = rest h in (r.0, record { before = x ∷ r.1.before; after = r.1.after; parts = ap (λ (zs : List ScriptedJob). x ∷ zs) r.1.parts }, r.2)

script-one : (s : Scripted) (k : Key) → IsScript limits s → list_any (λ i. is_key k (key_of_job i)) s.jobs ≡ true → IsOne k s.jobs
script-one s k formed there = let found = between-key k s.jobs there in record { job = found.0; is = subst (λ (x : Key). of_key x s.jobs ≡ found.0 ∷ []) (sym found.2) (between-one s found.0 formed found.1) }

-- the hall that gets a job gets it alone of its key, and no other hall gets one
dealt-none : (k : Key) (halls n i : ℕ) (js : List ScriptedJob) → of_key k js ≡ [] → of_key k (dealt_from halls n i js) ≡ []
dealt-none k halls n i [] none = refl
dealt-none k halls n i (x ∷ xs) none = by_key (is_key k (key_of_job x)) refl none (dealt-none k halls n (i + 1) xs)
  where
    first : (b : Bool) → is_key k (key_of_job x) ≡ false → of_key k (cond b (x ∷ []) []) ≡ []
    first true q = ap (λ (c : Bool). cond c (x ∷ []) []) q
    first false q = refl

    by_key : (b : Bool) → is_key k (key_of_job x) ≡ b → cond b (x ∷ of_key k xs) (of_key k xs) ≡ [] → (of_key k xs ≡ [] → of_key k (dealt_from halls n (i + 1) xs) ≡ []) → of_key k (cond (i % halls == n) (x ∷ []) [] ++ dealt_from halls n (i + 1) xs) ≡ []
    by_key true q e rest = absurd (cc)
    by_key false q e rest = filter-append (λ j. is_key k (key_of_job j)) (cond (i % halls == n) (x ∷ []) []) (dealt_from halls n (i + 1) xs) ∙ (ap (λ (js : List ScriptedJob). js ++ of_key k (dealt_from halls n (i + 1) xs)) (first (i % halls == n) q) ∙ rest e)

pub record IsDealt (k : Key) (halls i : ℕ) (js : List ScriptedJob) (j : ScriptedJob) : Type 0 where
  pub place : ℕ
  pub is : (n : ℕ) → of_key k (dealt_from halls n i js) ≡ cond (place % halls == n) (j ∷ []) []

pub dealt-one : (k : Key) (halls i : ℕ) (js : List ScriptedJob) (j : ScriptedJob) → of_key k js ≡ j ∷ [] → IsDealt k halls i js j
dealt-one k halls i [] j one = absurd (cc)
dealt-one k halls i (x ∷ xs) j one = by_key (is_key k (key_of_job x)) refl one (dealt-one k halls (i + 1) xs j)
  where
    split : (n : ℕ) → of_key k (cond (i % halls == n) (x ∷ []) [] ++ dealt_from halls n (i + 1) xs) ≡ of_key k (cond (i % halls == n) (x ∷ []) []) ++ of_key k (dealt_from halls n (i + 1) xs)
    split n = filter-append (λ y. is_key k (key_of_job y)) (cond (i % halls == n) (x ∷ []) []) (dealt_from halls n (i + 1) xs)

    mine : (b : Bool) → is_key k (key_of_job x) ≡ true → of_key k (cond b (x ∷ []) []) ≡ cond b (x ∷ []) []
    mine true q = ap (λ (c : Bool). cond c (x ∷ []) []) q
    mine false q = refl

    other : (b : Bool) → is_key k (key_of_job x) ≡ false → of_key k (cond b (x ∷ []) []) ≡ []
    other true q = ap (λ (c : Bool). cond c (x ∷ []) []) q
    other false q = refl

    by_key : (b : Bool) → is_key k (key_of_job x) ≡ b → cond b (x ∷ of_key k xs) (of_key k xs) ≡ j ∷ [] → (of_key k xs ≡ j ∷ [] → IsDealt k halls (i + 1) xs j) → IsDealt k halls i (x ∷ xs) j
    by_key true q e rest =
        let same : x ≡ j = cc in
        let none : of_key k xs ≡ [] = cc in
        record {
          place = i;
          is = λ n.
              split n
              ∙ (ap (λ (js : List ScriptedJob). of_key k (cond (i % halls == n) (x ∷ []) []) ++ js) (dealt-none k halls n (i + 1) xs none)
              ∙ (append-nil (of_key k (cond (i % halls == n) (x ∷ []) []))
              ∙ (mine (i % halls == n) q ∙ ap (λ (y : ScriptedJob). cond (i % halls == n) (y ∷ []) []) same)));
        }
    by_key false q e rest =
        let r = rest e in
        record { place = r.place; is = λ n. split n ∙ (ap (λ (js : List ScriptedJob). js ++ of_key k (dealt_from halls n (i + 1) xs)) (other (i % halls == n) q) ∙ r.is n) }

-- the history with which a hall begins
abbrev pub posted_at : ℕ → Scripted → ℕ → List Event
posted_at halls s n = script_events (record { jobs = dealt_from halls n 0 s.jobs })

abbrev pub dealt_at : ℕ → Scripted → ℕ → List ScriptedJob
dealt_at halls s n = dealt_from halls n 0 s.jobs

pub posted-named : (k : Key) (halls n : ℕ) (s : Scripted) → is_named k (posted_at halls s n) ≡ list_any (λ i. is_key k (key_of_job i)) (dealt_at halls s n)
posted-named k halls n s = script-named k (record { jobs = dealt_at halls s n }) ∙ among-keys k (dealt_at halls s n)

-- a job that a hall gets is dealt to this hall
some-dealt : (k : Key) (halls n i : ℕ) (js : List ScriptedJob) → list_any (λ x. is_key k (key_of_job x)) (dealt_from halls n i js) ≡ true → list_any (λ x. is_key k (key_of_job x)) js ≡ true
some-dealt k halls n i js there = by_test (list_any (λ x. is_key k (key_of_job x)) js) refl
  where
    by_test : (b : Bool) → list_any (λ x. is_key k (key_of_job x)) js ≡ b → b ≡ true
    by_test true q = refl
    by_test false q = absurd (both_ways (list_any (λ x. is_key k (key_of_job x)) (dealt_from halls n i js)) (apart-of_key k (dealt_from halls n i js) (dealt-none k halls n i js (none-of_key k js q))) there)

-- so no two halls get jobs of one key
pub dealt-apart : (halls m n : ℕ) (s : Scripted) (k : Key) → IsScript limits s → is_named k (posted_at halls s m) ≡ true → is_named k (posted_at halls s n) ≡ true → m ≡ n
dealt-apart halls m n s k formed one other =
    let here = sym (posted-named k halls m s) ∙ one in
    let there = sym (posted-named k halls n s) ∙ other in
    let only : IsOne k s.jobs = script-one s k formed (some-dealt k halls m 0 s.jobs here) in
    let is : IsDealt k halls 0 s.jobs only.job = dealt-one k halls 0 s.jobs only.job only.is in
    sym (place only is m here) ∙ place only is n there
  where
    place : (only : IsOne k s.jobs) (is : IsDealt k halls 0 s.jobs only.job) (i : ℕ) → list_any (λ x. is_key k (key_of_job x)) (dealt_at halls s i) ≡ true → is.place % halls ≡ i
    place only is i h = by_test (is.place % halls == i) refl
      where
        by_test : (b : Bool) → (is.place % halls == i) ≡ b → is.place % halls ≡ i
        by_test true q = (Decides-eqb (is.place % halls) i).0 q
        by_test false q = absurd (both_ways (list_any (λ x. is_key k (key_of_job x)) (dealt_at halls s i)) (apart-of_key k (dealt_at halls s i) (is.is i ∙ ap (λ (b : Bool). cond b (only.job ∷ []) []) q)) h)

-- the openings move no job
opened-stay : (js : List ScriptedJob) → list_any moves (open_events js) ≡ false
opened-stay [] = refl
opened-stay (j ∷ js) = opened-stay js

script-stays : (s : Scripted) → list_any moves (script_events s) ≡ false
script-stays s = list_any-append moves (open_events s.jobs) (flat_map job_events s.jobs) ∙ or_from (list_any moves (open_events s.jobs)) (list_any moves (flat_map job_events s.jobs)) (opened-stay s.jobs) (jobs-stay s.jobs)

-- halls get their jobs one after the other; those of a front have them, and those after have none yet
module _ (halls workers : ℕ) (s : Scripted) (formed : IsScript limits s) where
  abbrev Filled : List (List Event) → Cluster
  Filled hs = record { workers = workers; halls = hs; moves = [] }

  abbrev IsFresh : ℕ → List (List Event) → Type 0
  IsFresh a front = (k : Key) (n : ℕ) → a ≤ n → is_named k (posted_at halls s n) ≡ true → is_had k front ≡ false

  none-had : (k : Key) (b : ℕ) → is_had k (replicate b []) ≡ false
  none-had k zero = refl
  none-had k (suc b) = none-had k b

  opened-named : (k : Key) (h : List Event) → list_any (opens k) h ≡ true → is_named k h ≡ true
  opened-named k h q = named-by k h (list_any (opens k) h) (unnamed-open k h) q

  fresh-more : (a : ℕ) (front : List (List Event)) → IsFresh a front → IsFresh (a + 1) (front ++ posted_at halls s a ∷ [])
  fresh-more a front fresh k n low named =
      list_any-append (is_named k) front (posted_at halls s a ∷ [])
      ∙ or_from (is_had k front) (is_named k (posted_at halls s a) || false) (fresh k n (omega (arith, low)) named)
      (or_from (is_named k (posted_at halls s a)) false (false_from_ne_true (is_named k (posted_at halls s a)) (λ q. above a n low (dealt-apart halls a n s k formed q named))) refl)
    where
      above : (x y : ℕ) → x + 1 ≤ y → x ≡ y → ⊥
      above x y p q = omega arith

  filled-one : (a b : ℕ) (front : List (List Event)) → IsFresh a front → IsCluster (Filled (front ++ replicate (suc b) [])) → IsCluster (Filled (front ++ posted_at halls s a ∷ replicate b []))
  filled-one a b front fresh is =
      subst (λ (hs : List (List Event)). IsCluster (Filled hs)) (front-set front (replicate b []) [] (posted_at halls s a))
      (subst (λ (h : List Event). IsCluster (Filled (slice_set (front ++ [] ∷ replicate b []) (length front) (h ++ posted_at halls s a)))) (front-at front (replicate b []) []) (growth-keeps (Filled (front ++ [] ∷ replicate b [])) (length front) (posted_at halls s a) is grows))
    where
      empty : hall_at (front ++ [] ∷ replicate b []) (length front) ≡ []
      empty = front-at front (replicate b []) []

      grows : Grows (Filled (front ++ [] ∷ replicate b [])) (length front) (posted_at halls s a)
      grows = record {
        within = front-within front (replicate b []) [];
        legal = subst (λ (h : List Event). Legal workers (h ++ posted_at halls s a)) (sym empty) (script-legal workers (record { jobs = dealt_at halls s a }) (dealt-is_script halls a s formed));
        calm = ap (λ (h : List Event). leases (h ++ posted_at halls s a)) empty ∙ script-home (record { jobs = dealt_at halls s a });
        still = script-stays (record { jobs = dealt_at halls s a });
        fresh = λ k q. list_any-append (is_named k) front ([] ∷ replicate b []) ∙ or_from (is_had k front) (is_had k ([] ∷ replicate b [])) (fresh k a (omega arith) (opened-named k (posted_at halls s a) q)) (none-had k b);
      }

  filled-all : (a b : ℕ) (front : List (List Event)) → IsFresh a front → IsCluster (Filled (front ++ replicate b [])) → IsCluster (Filled (front ++ map (posted_at halls s) (counted a b)))
  filled-all a zero front fresh is = is
  filled-all a (suc b) front fresh is =
      let one : IsCluster (Filled (front ++ posted_at halls s a ∷ replicate b [])) = filled-one a b front fresh is in
      let next = filled-all (a + 1) b (front ++ posted_at halls s a ∷ []) (fresh-more a front fresh) (subst (λ (hs : List (List Event)). IsCluster (Filled hs)) (sym (append_assoc front (posted_at halls s a ∷ []) (replicate b []))) one) in
      subst (λ (hs : List (List Event)). IsCluster (Filled hs)) (append_assoc front (posted_at halls s a ∷ []) (map (posted_at halls s) (counted (a + 1) b))) next

-- the histories of halls that got their jobs
map-dealt : (halls : ℕ) (s : Scripted) (ns : List ℕ) → map (posted_at halls s) ns ≡ map script_events (map (λ n. record { jobs = dealt_from halls n 0 s.jobs }) ns)
map-dealt halls s [] = refl
map-dealt halls s (n ∷ ns) = ap (λ (hs : List (List Event)). posted_at halls s n ∷ hs) (map-dealt halls s ns)

pub posted-halls : (halls workers : ℕ) (s : Scripted) → (posted halls workers s).halls ≡ map (posted_at halls s) (counted 0 halls)
posted-halls halls workers s = sym (map-dealt halls s (counted 0 halls))

pub posted-is_cluster : PostedIsCluster
posted-is_cluster halls workers s few bound some most formed =
    subst (λ (hs : List (List Event)). IsCluster (record { workers = workers; halls = hs; moves = [] })) (map-dealt halls s (counted 0 halls))
    (filled-all halls workers s formed 0 halls [] (λ k n low named. refl) (new-is_cluster halls workers few bound some most))
