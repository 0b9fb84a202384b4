-- In the rounds over a script no move is refused: the names of all halls are keys of the script.
use Rattle.std.proofs.Common.{◌≡◌, ℕ, zero, suc, ◌+◌, ◌%◌, ◌<◌, ◌≤◌, Bool, true, false, cond, not, ◌&&◌, ◌||◌, ◌==◌, nat_lt, List, [], ◌∷◌, ◌++◌, length, map, filter, flat_map, slice_get, slice_set, Option, Some, None, option_map, inl, inr, refl, sym, ◌∙◌, ap, subst, arith, append-nil, append_assoc}
use Rattle.std.specs.List.{list_all, list_any}
use Rattle.std.proofs.lemmas.Bool.{and_from, and_parts, both_ways, lt-ltb, ltb-true, or_cases, or_from, or_left, or_right}
use Rattle.std.proofs.lemmas.Bool.Decides.{Decides-eqb}
use Rattle.std.proofs.lemmas.List.{map-append}
use Rattle.std.proofs.lemmas.List.Folds.{list_any-append}
use Rattle.std.proofs.lemmas.List.Sums.{sum_by_push}
use Rattle.spec_node.specs.Load.{counted}
use Rattle.spec_job.specs.KeyedJob.{Key, KeyedJob}
use Rattle.spec_job.specs.SoloMachine.{Own, is_live}
use Rattle.spec_hall.specs.Calls.{arranges}
use Rattle.spec_hall.specs.Events.{Event, Open, Revise, Reask, Close, Balance, Start, Finish, Exchange, Leave, Arrive}
use Rattle.spec_hall.specs.Legal.{jobs_of, tenant_count}
use Rattle.spec_hall.specs.Own.{is_key, is_text, brought_by}
use Rattle.spec_hall.specs.States.{keys_of, live_of, names_of, titled}
use Rattle.spec_hall.specs.Turns.{HasWaited, IsSlice, TakesTurn, first_live}
use Rattle.spec_hall.proofs.KeyLemmas.{is_key-Decides, is_text-Decides}
use Rattle.spec_run.specs.Complete.{job_events, key_of_job, open_events, script_events, step_events}
use Rattle.spec_run.proofs.TenantLemmas.{jobs-counted, tenants-named}
use Rattle.spec_script.specs.Formed.{IsScript, MayAllFollow, tenants_of}
use Rattle.mal_base.specs.Limits.{limits}
use Rattle.spec_script.specs.Script.{ScriptedJob, Scripted}
use Rattle.spec_script.specs.declared.step.Step.{Step}
use Rattle.spec_script.specs.declared.step.Step.TheVariants as steps
use Rattle.spec_cluster.specs.Calls.{went}
use Rattle.spec_cluster.specs.Clusters.{Cluster, is_named, is_there}
use Rattle.spec_cluster.specs.Laws.{AllMove, MayAllCome, MovesAreTaken}
use Rattle.spec_cluster.specs.Rounds.{AllTurn, AreRounds, carried, goes, may_come, next_hall}
use Rattle.spec_cluster.specs.Run.{dealt_from, posted}
use Rattle.spec_cluster.specs.Visits.{hall_at}
use Rattle.spec_cluster.proofs.AmongLemmas.{AreAmong, HasRoom, has-room, names-apart}
use Rattle.spec_cluster.proofs.NameLemmas.{comes, named-append, named-by, or-none, unnamed-there}

-- a script in form has 64 jobs of a tenant at most
follow-jobs : (t : List ℕ) (done js : List ScriptedJob) → MayAllFollow limits done js → jobs_of t (map key_of_job done) ≤ limits.jobs_of_tenant → jobs_of t (map key_of_job (done ++ js)) ≤ limits.jobs_of_tenant
follow-jobs t done [] follow few = subst (λ (js : List ScriptedJob). jobs_of t (map key_of_job js) ≤ limits.jobs_of_tenant) (sym (append-nil done)) few
follow-jobs t done (j ∷ js) follow few = subst (λ (is : List ScriptedJob). jobs_of t (map key_of_job is) ≤ limits.jobs_of_tenant) (append_assoc done (j ∷ []) js) (follow-jobs t (done ++ j ∷ []) js follow.1 (subst (λ (n : ℕ). n ≤ 64) (sym (ap (jobs_of t) (map-append key_of_job done (j ∷ [])) ∙ sum_by_push (λ (k : Key). cond (is_text t k.tenant) 1 0) (map key_of_job done) (key_of_job j))) (by_test (is_text t j.tenant) refl)))
  where
    one-more : (n : ℕ) → n < 64 → n + 1 ≤ 64
    one-more n low = omega arith

    no-more : (n : ℕ) → n ≤ 64 → n + 0 ≤ 64
    no-more n low = omega arith

    by_test : (b : Bool) → is_text t j.tenant ≡ b → jobs_of t (map key_of_job done) + cond b 1 0 ≤ 64
    by_test true q = one-more (jobs_of t (map key_of_job done)) (subst (λ (n : ℕ). n < 64) (sym (ap (λ (s : List ℕ). jobs_of s (map key_of_job done)) ((is_text-Decides t j.tenant).0 q) ∙ jobs-counted j.tenant done)) (ltb-true _ 64 (and_parts _ _ follow.0.room).0))
    by_test false q = no-more (jobs_of t (map key_of_job done)) few

-- and 64 tenants
follow-tenants : (done js : List ScriptedJob) → MayAllFollow limits done js → length (tenants_of done) ≤ limits.tenants → length (tenants_of (done ++ js)) ≤ limits.tenants
follow-tenants done [] follow few = subst (λ (js : List ScriptedJob). length (tenants_of js) ≤ limits.tenants) (sym (append-nil done)) few
follow-tenants done (j ∷ js) follow few = subst (λ (is : List ScriptedJob). length (tenants_of is) ≤ limits.tenants) (append_assoc done (j ∷ []) js) (follow-tenants (done ++ j ∷ []) js follow.1 follow.0.tenants)

-- the keys of a script
abbrev pub keys_in : Scripted → List Key
keys_in s = map key_of_job s.jobs

-- so a job of it may come where only jobs of it came
pub scripted-comes : (s : Scripted) (k : Key) (h : List Event) → IsScript limits s → AreAmong (names_of h) (keys_in s) → list_any (is_key k) (keys_in s) ≡ true → may_come k h ≡ true
scripted-comes s k h formed among there = by_test (is_named k h) refl
  where
    below : (n m most : ℕ) → n < m → m ≤ most → n < most
    below n m most low high = omega arith

    least : (n m l : ℕ) → n ≤ m → m ≤ l → n ≤ l
    least n m l p q = omega arith

    tenants : tenant_count (keys_in s) ≤ 64
    tenants = least (tenant_count (keys_in s)) (length (tenants_of s.jobs)) 64 (tenants-named s.jobs) (follow-tenants [] s.jobs formed (omega arith))

    room : HasRoom k (names_of h) (keys_in s) → (nat_lt (jobs_of k.tenant (names_of h)) 64 && (not (jobs_of k.tenant (names_of h) == 0) || nat_lt (tenant_count (names_of h)) 64)) ≡ true
    room has = and_from _ _ (lt-ltb (jobs_of k.tenant (names_of h)) 64 (below (jobs_of k.tenant (names_of h)) (jobs_of k.tenant (keys_in s)) 64 has.jobs (follow-jobs k.tenant [] s.jobs formed (omega arith)))) (by_none (jobs_of k.tenant (names_of h) == 0) refl)
      where
        by_none : (b : Bool) → (jobs_of k.tenant (names_of h) == 0) ≡ b → (not b || nat_lt (tenant_count (names_of h)) 64) ≡ true
        by_none false q = refl
        by_none true q = lt-ltb (tenant_count (names_of h)) 64 (below (tenant_count (names_of h)) (tenant_count (keys_in s)) 64 (has.tenants ((Decides-eqb (jobs_of k.tenant (names_of h)) 0).0 q)) tenants)

    by_test : (b : Bool) → is_named k h ≡ b → may_come k h ≡ true
    by_test true q = or_left (is_named k h) _ q
    by_test false q = or_right (is_named k h) _ (room (has-room k (names_of h) (keys_in s) (names-apart h) among q there))

-- what is arranged, a start and a finish are no comings
arrange-comes : (k : Key) (e : Event) → arranges e ≡ true → comes k e ≡ false
arrange-comes k (Open j ask) q = absurd (both_ways false refl q)
arrange-comes k (Revise j number r) q = refl
arrange-comes k (Reask j w) q = refl
arrange-comes k (Close j) q = refl
arrange-comes k (Balance shares) q = refl
arrange-comes k (Start j index worker) q = refl
arrange-comes k (Finish j index worker outcome) q = refl
arrange-comes k (Exchange j) q = refl
arrange-comes k (Leave j) q = refl
arrange-comes k (Arrive j brought) q = absurd (both_ways false refl q)

pub arranged-come : (k : Key) (es : List Event) → list_all arranges es ≡ true → list_any (comes k) es ≡ false
arranged-come k [] all = refl
arranged-come k (e ∷ es) all =
    let parts = and_parts (arranges e) (list_all arranges es) all in
    or_from (comes k e) (list_any (comes k) es) (arrange-comes k e parts.0) (arranged-come k es parts.1)

-- the first live job of a hall is there
pub first-key : (h : List Event) (ks : List Key) (k : Key) → option_map (λ l. l.key) (slice_get (map live_of (filter (λ (t : KeyedJob). is_live t.state) (map (titled h) ks))) 0) ≡ Some k → list_any (is_key k) ks ≡ true
first-key h [] k found = absurd (cc)
first-key h (x ∷ xs) k found = by_test (is_live (titled h x).state) found (first-key h xs k)
  where
    mine : Some x ≡ Some k → list_any (is_key k) (x ∷ xs) ≡ true
    mine q =
        let same : x ≡ k = cc in
        or_left (is_key k x) (list_any (is_key k) xs) ((is_key-Decides k x).1 (sym same))

    by_test : (b : Bool) → option_map (λ l. l.key) (slice_get (map live_of (cond b (titled h x ∷ filter (λ (t : KeyedJob). is_live t.state) (map (titled h) xs)) (filter (λ (t : KeyedJob). is_live t.state) (map (titled h) xs)))) 0) ≡ Some k → (option_map (λ l. l.key) (slice_get (map live_of (filter (λ (t : KeyedJob). is_live t.state) (map (titled h) xs))) 0) ≡ Some k → list_any (is_key k) xs ≡ true) → list_any (is_key k) (x ∷ xs) ≡ true
    by_test true q rest = mine q
    by_test false q rest = or_right (is_key k x) (list_any (is_key k) xs) (rest q)

module _ (s : Scripted) where
  -- only jobs of the script came to a hall
  abbrev AreScripted : List Event → Type 0
  AreScripted h = AreAmong (names_of h) (keys_in s)

  -- events without a coming
  quiet-scripted : (h es : List Event) → ((k : Key) → list_any (comes k) es ≡ false) → AreScripted h → AreScripted (h ++ es)
  quiet-scripted h es none among k named = among k (or-none (is_named k h) ∙ (ap (λ (b : Bool). is_named k h || b) (sym (none k)) ∙ (sym (named-append k h es) ∙ named)))

  slice-scripted : (w : ℕ) (past now : List Event) → IsSlice w past now → AreScripted past → AreScripted now
  slice-scripted w past now slice among =
      let start = slice.picked.call in
      let none : (k : Key) → list_any (comes k) (start.due ++ Start start.key start.index 1 ∷ []) ≡ false = λ k. list_any-append (comes k) start.due (Start start.key start.index 1 ∷ []) ∙ or_from (list_any (comes k) start.due) false (arranged-come k start.due start.first.kinds) refl in
      let mid : AreScripted slice.mid = subst AreScripted (sym (slice.picked.grown ∙ ap (λ (es : List Event). past ++ es) start.events)) (quiet-scripted past (start.due ++ Start start.key start.index 1 ∷ []) none among) in
      subst AreScripted (sym slice.grown) (quiet-scripted slice.mid (Finish slice.out.key slice.out.index 1 slice.outcome ∷ []) (λ k. refl) mid)

  waited-scripted : (w : ℕ) (past now : List Event) → HasWaited w past now → AreScripted past → AreScripted now
  waited-scripted w past now waited among = elim waited [
    | inl idle ↦ subst AreScripted (sym idle.grown) (quiet-scripted past idle.events (λ k. arranged-come k idle.events idle.call.due.kinds) among)
    | inr done ↦ subst AreScripted (sym (done.grown ∙ ap (λ (es : List Event). past ++ es) done.call.1)) (quiet-scripted past [] (λ k. refl) among)
  ]

  -- a turn
  turn-scripted : (w n : ℕ) (past now : List Event) → TakesTurn w n past now → AreScripted past → AreScripted now
  turn-scripted w zero past now turn among = subst AreScripted (sym turn) among
  turn-scripted w (suc n) past now turn among = elim turn [ inl waited ↦ waited-scripted w past now waited among | inr more ↦ turn-scripted w n more.0 now more.2 (slice-scripted w past more.0 more.1 among) ]

  -- only jobs of the script came to halls
  abbrev AllScripted : List (List Event) → Type 0
  AllScripted halls = (n : ℕ) → AreScripted (hall_at halls n)

  none-scripted : AreScripted []
  none-scripted k named = absurd (both_ways false refl named)

  turns-scripted : (w n : ℕ) (pasts nows : List (List Event)) → AllTurn w n pasts nows → AllScripted pasts → AllScripted nows
  turns-scripted w n [] [] turns among m = none-scripted
  turns-scripted w n [] (now ∷ nows) turns among m = absurd turns
  turns-scripted w n (past ∷ pasts) [] turns among m = absurd turns
  turns-scripted w n (past ∷ pasts) (now ∷ nows) turns among zero = turn-scripted w n past now turns.0 (among 0)
  turns-scripted w n (past ∷ pasts) (now ∷ nows) turns among (suc m) = turns-scripted w n pasts nows turns.1 (λ i. among (suc i)) m

  -- each job that was chosen is one of the script
  abbrev AllChosen : List (Option Key) → Type 0
  AllChosen [] = Unit {0}
  AllChosen (None ∷ rest) = AllChosen rest
  AllChosen (Some k ∷ rest) = (list_any (is_key k) (keys_in s) ≡ true) × AllChosen rest

  first-scripted : (h : List Event) (k : Key) → AreScripted h → first_live h ≡ Some k → list_any (is_key k) (keys_in s) ≡ true
  first-scripted h k among found = among k (named-by k h (is_there k h) (unnamed-there k h) (first-key h (keys_of h) k found))

  chosen-scripted : (halls : List (List Event)) → AllScripted halls → AllChosen (map first_live halls)
  chosen-scripted [] among = tt
  chosen-scripted (h ∷ hs) among = by_first (first_live h) refl (chosen-scripted hs (λ n. among (suc n)))
    where
      by_first : (o : Option Key) → first_live h ≡ o → AllChosen (map first_live hs) → AllChosen (o ∷ map first_live hs)
      by_first None q rest = rest
      by_first (Some k) q rest = (first-scripted h k (among 0) q, rest)

  -- another history in a hall
  set-scripted : (halls : List (List Event)) (n : ℕ) (h : List Event) → AreScripted h → AllScripted halls → AllScripted (slice_set halls n h)
  set-scripted [] n h here among m = none-scripted
  set-scripted (x ∷ xs) zero h here among zero = here
  set-scripted (x ∷ xs) zero h here among (suc m) = among (suc m)
  set-scripted (x ∷ xs) (suc n) h here among zero = among 0
  set-scripted (x ∷ xs) (suc n) h here among (suc m) = set-scripted xs n h here (λ i. among (suc i)) m

  arrive-scripted : (h : List Event) (k : Key) (brought : List Own) → AreScripted h → list_any (is_key k) (keys_in s) ≡ true → AreScripted (h ++ Arrive k brought ∷ [])
  arrive-scripted h k brought among mine j named = elim (or_cases (is_named j h) (is_key j k || false) (sym (named-append j h (Arrive k brought ∷ [])) ∙ named)) [ inl old ↦ among j old | inr new ↦ subst (λ (x : Key). list_any (is_key x) (keys_in s) ≡ true) (sym ((is_key-Decides j k).0 (or-none (is_key j k) ∙ new))) mine ]

  went-scripted : (c : Cluster) (k : Key) (from to : ℕ) → AllScripted c.halls → list_any (is_key k) (keys_in s) ≡ true → AllScripted (went k from to c).halls
  went-scripted c k from to among mine =
      set-scripted (slice_set c.halls from (hall_at c.halls from ++ Leave k ∷ [])) to (hall_at c.halls to ++ Arrive k (brought_by k (hall_at c.halls from)) ∷ [])
      (arrive-scripted (hall_at c.halls to) k (brought_by k (hall_at c.halls from)) (among to) mine)
      (set-scripted c.halls from (hall_at c.halls from ++ Leave k ∷ []) (quiet-scripted (hall_at c.halls from) (Leave k ∷ []) (λ j. refl) (among from)) among)

  -- so each may come
  all-come : IsScript limits s → (chosen : List (Option Key)) (from : ℕ) (c : Cluster) → AllChosen chosen → AllScripted c.halls → MayAllCome chosen from c
  all-come formed [] from c chosen among = tt
  all-come formed (None ∷ rest) from c chosen among = all-come formed rest (from + 1) c chosen among
  all-come formed (Some k ∷ rest) from c chosen among =
      (scripted-comes s k (hall_at c.halls (next_hall from c)) formed (among (next_hall from c)) chosen.0, all-come formed rest (from + 1) (went k from (next_hall from c) c) chosen.1 (went-scripted c k from (next_hall from c) among chosen.0))

  carried-scripted : (chosen : List (Option Key)) (from : ℕ) (c : Cluster) → AllChosen chosen → AllScripted c.halls → AllScripted (carried chosen from c).halls
  carried-scripted [] from c chosen among = among
  carried-scripted (None ∷ rest) from c chosen among = carried-scripted rest (from + 1) c chosen among
  carried-scripted (Some k ∷ rest) from c chosen among = carried-scripted rest (from + 1) (goes (Some k) from c) chosen.1 (by_test (may_come k (hall_at c.halls (next_hall from c))))
    where
      by_test : (b : Bool) → AllScripted (cond b (went k from (next_hall from c) c) c).halls
      by_test true = went-scripted c k from (next_hall from c) among chosen.0
      by_test false = among

  rounds-move : IsScript limits s → (every : ℕ) (now : Cluster) (rounds : List Cluster) (end : Cluster) (are : AreRounds every now rounds end) → AllScripted now.halls → AllMove every now rounds end are
  rounds-move formed every now [] end are among = tt
  rounds-move formed every now (next ∷ rest) end are among =
      let mids = are.1.mids in
      let here : AllScripted mids = turns-scripted now.workers every now.halls mids are.1.turned among in
      let chosen : AllChosen (map first_live mids) = chosen-scripted mids here in
      (all-come formed (map first_live mids) 0 (record now { halls = mids }) chosen here, rounds-move formed every next rest end are.2 (subst (λ (c : Cluster). AllScripted c.halls) (sym are.1.moved) (carried-scripted (map first_live mids) 0 (record now { halls = mids }) chosen here)))

-- what a script posts brings its own jobs alone
steps-come : (k j : Key) (n : ℕ) (ss : List Step) → list_any (comes k) (step_events j n ss) ≡ false
steps-come k j n [] = refl
steps-come k j n (steps.Revise r ∷ ss) = steps-come k j (n + 1) ss
steps-come k j n (steps.Reask w ∷ ss) = steps-come k j n ss

jobs-come : (k : Key) (js : List ScriptedJob) → list_any (comes k) (flat_map job_events js) ≡ false
jobs-come k [] = refl
jobs-come k (j ∷ js) =
    list_any-append (comes k) (job_events j) (flat_map job_events js)
    ∙ or_from (list_any (comes k) (job_events j)) (list_any (comes k) (flat_map job_events js)) (list_any-append (comes k) (step_events (key_of_job j) 1 j.steps) (Close (key_of_job j) ∷ []) ∙ or_from (list_any (comes k) (step_events (key_of_job j) 1 j.steps)) false (steps-come k (key_of_job j) 1 j.steps) refl) (jobs-come k js)

opens-come : (k : Key) (js : List ScriptedJob) → list_any (comes k) (open_events js) ≡ list_any (is_key k) (map key_of_job js)
opens-come k [] = refl
opens-come k (j ∷ js) = ap (λ (b : Bool). is_key k (key_of_job j) || b) (opens-come k js)

pub script-named : (k : Key) (s : Scripted) → is_named k (script_events s) ≡ list_any (is_key k) (keys_in s)
script-named k s =
    named-append k [] (script_events s)
    ∙ (list_any-append (comes k) (open_events s.jobs) (flat_map job_events s.jobs)
    ∙ (ap (λ (b : Bool). list_any (comes k) (open_events s.jobs) || b) (jobs-come k s.jobs)
    ∙ (sym (or-none (list_any (comes k) (open_events s.jobs))) ∙ opens-come k s.jobs)))

-- the jobs of a hall are jobs of the script
dealt-among : (k : Key) (halls n i : ℕ) (js : List ScriptedJob) → list_any (is_key k) (map key_of_job (dealt_from halls n i js)) ≡ true → list_any (is_key k) (map key_of_job js) ≡ true
dealt-among k halls n i [] among = among
dealt-among k halls n i (j ∷ js) among = by_test (i % halls == n) among (dealt-among k halls n (i + 1) js)
  where
    by_test : (b : Bool) → list_any (is_key k) (map key_of_job (cond b (j ∷ []) [] ++ dealt_from halls n (i + 1) js)) ≡ true → (list_any (is_key k) (map key_of_job (dealt_from halls n (i + 1) js)) ≡ true → list_any (is_key k) (map key_of_job js) ≡ true) → list_any (is_key k) (map key_of_job (j ∷ js)) ≡ true
    by_test true q rest = elim (or_cases (is_key k (key_of_job j)) (list_any (is_key k) (map key_of_job (dealt_from halls n (i + 1) js))) q) [ inl here ↦ or_left (is_key k (key_of_job j)) _ here | inr there ↦ or_right (is_key k (key_of_job j)) _ (rest there) ]
    by_test false q rest = or_right (is_key k (key_of_job j)) _ (rest q)

posted-scripted : (s : Scripted) (halls : ℕ) (ns : List ℕ) → AllScripted s (map script_events (map (λ n. record { jobs = dealt_from halls n 0 s.jobs }) ns))
posted-scripted s halls [] m = none-scripted s
posted-scripted s halls (n ∷ ns) zero = λ k named. dealt-among k halls n 0 s.jobs (sym (script-named k (record { jobs = dealt_from halls n 0 s.jobs })) ∙ named)
posted-scripted s halls (n ∷ ns) (suc m) = posted-scripted s halls ns m

pub moves-are_taken : MovesAreTaken
moves-are_taken halls workers every s rounds end formed are = rounds-move s formed every (posted halls workers s) rounds end are (posted-scripted s halls (counted 0 halls))
