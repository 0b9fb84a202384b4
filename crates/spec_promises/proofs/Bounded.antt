-- The starts of a run are no more than its budgets.
use Rattle.std.proofs.Common.{◌≡◌, ◌≢◌, ℕ, zero, suc, ◌+◌, ◌*◌, ◌≤◌, Bool, true, false, cond, ◌||◌, List, [], ◌∷◌, ◌++◌, length, flat_map, filter, Some, refl, sym, ◌∙◌, ap, ap₂, subst, arith, append_assoc, append-nil}
use Rattle.std.specs.Prelude.{sum_by, slice_get}
use Rattle.std.specs.List.{AllByRecursion, list_any}
use Rattle.std.proofs.lemmas.Bool.{and_parts, both_ways, or_left, or_parts}
use Rattle.std.proofs.lemmas.List.Folds.{list_any-append}
use Rattle.std.proofs.lemmas.List.Sums.{fold_push, sum_by-cons}
use Rattle.mal_base.specs.Limits.{limits}
use Rattle.mal_base.specs.declared.verdict.Outcome.{Outcome}
use Rattle.mal_base.specs.declared.verdict.Outcome.TheVariants.{Ran, Starved, Lost}
use Rattle.spec_job.specs.KeyedJob.{Key}
use Rattle.spec_job.specs.SoloMachine.{Own, Opened, Revised, Reasked, Closed, Volume, Started, Finished, Exchanged, solo, startable}
use Rattle.spec_job.proofs.LeftLemmas.{solo-tidy}
use Rattle.spec_job.proofs.PushLemmas.{solo-push}
use Rattle.spec_hall.specs.Driven.{was_lost}
use Rattle.spec_hall.specs.Events.{Event, Open, Revise, Reask, Close, Balance, Start, Finish, Exchange, Leave, Arrive, moves}
use Rattle.spec_hall.specs.Legal.{Allowed, Legal, LegalFrom}
use Rattle.spec_hall.specs.Own.{adds, is_key, is_text, own, own_step, volume_in}
use Rattle.spec_hall.specs.States.{keys_of, names_of}
use Rattle.spec_hall.proofs.KeyLemmas.{is_key-Decides, is_key-same}
use Rattle.spec_hall.proofs.LeasesLemmas.{start-free}
use Rattle.spec_hall.proofs.OrderlyLemmas.{legal-orderly}
use Rattle.spec_hall.proofs.PushLemmas.{Legal-push, adds_volume-keeps, own-push}
use Rattle.spec_hall.proofs.RunnableLemmas.{picked-may}
use Rattle.spec_run.specs.Complete.{IsComplete, is_post_of, job_events, jobs_of_tenant, key_of_job, open_events, posts_of, step_events}
use Rattle.spec_run.specs.Losses.{NoneIsLost, is_loss}
use Rattle.spec_script.specs.Formed.{IsScript}
use Rattle.spec_script.specs.Script.{ScriptedJob, Scripted}
use Rattle.spec_script.specs.declared.step.Step.{Step}
use Rattle.spec_script.specs.declared.step.Step.TheVariants as steps
use Rattle.spec_cluster.specs.Clusters.{is_there}
use Rattle.spec_cluster.specs.Visits.{opens}
use Rattle.spec_cluster.proofs.NameLemmas.{there-append}
use Rattle.spec_promises.specs.Bounded.{is_start, is_start_of, starts_in, starts_of, most_starts, JobIsBounded, RunIsBounded}
use Rattle.spec_promises.proofs.Jobs.{Did, run-did}
use Rattle.spec_promises.proofs.Used.{IsUsed, IsOther, one_if, done-used, empty-used, opened-used, other-used, started-used}

-- so many starts of a job with these own events, none before its first
record IsCounted (n : ℕ) (os : List Own) : Type 0 where
  used : IsUsed n (solo os)
  none : os ≡ [] → n ≡ 0

not-nil : (os : List Own) (o : Own) → os ++ o ∷ [] ≡ [] → ⊥
not-nil [] o e = cc
not-nil (x ∷ xs) o e = cc

add-other : (n : ℕ) (mine : Bool) (os : List Own) (o : Own) → IsOther o → IsCounted n os → IsCounted n (adds mine os o)
add-other n true os o is h = record { used = subst (IsUsed n) (sym (solo-push os o)) (other-used n (solo os) o is h.used); none = λ e. absurd (not-nil os o e) }
add-other n false os o is h = h

-- a start of the job, and one of another
add-start : (w n : ℕ) (k j : Key) (past : List Event) (index worker : ℕ) → 1 ≤ w → w ≤ 64 → Legal w past → Allowed w past (Start j index worker) → (mine : Bool) → is_key k j ≡ mine → IsCounted n (own k past) → IsCounted (n + cond mine 1 0) (adds mine (own k past) (Started index))
add-start w n k j past index worker some bound legal may true same h =
    let key : k ≡ j = (is_key-Decides k j).0 same in
    let startable-is : startable (solo (own k past)) index ≡ true = subst (λ (x : Key). startable (solo (own x past)) index ≡ true) (sym key) (picked-may w past j index worker may.0 may.1) in
    let count : length (solo (own k past)).places ≡ 64 = (solo-tidy (own k past)).places.count in
    let low = (start-free w past j index worker some bound legal may).low in
    record { used = subst (IsUsed (n + 1)) (sym (solo-push (own k past) (Started index))) (started-used n index (solo (own k past)) (omega (arith, count, low)) startable-is h.used); none = λ e. absurd (not-nil (own k past) (Started index) e) }
add-start w n k j past index worker some bound legal may false same h = record { used = subst (λ (m : ℕ). IsUsed m (solo (own k past))) (plus n) h.used; none = λ e. plus-none (h.none e) }
  where
    plus : (m : ℕ) → m ≡ m + 0
    plus m = omega arith

    plus-none : n ≡ 0 → n + 0 ≡ 0
    plus-none e = omega (arith, e)

-- an opening
add-open : (w n : ℕ) (k j : Key) (past : List Event) (o : Own) → IsUsed 0 (solo (o ∷ [])) → Legal w past → (is_key k j ≡ true → own k past ≡ []) → (mine : Bool) → is_key k j ≡ mine → IsCounted n (own k past) → IsCounted n (adds mine (own k past) o)
add-open w n k j past o first legal fresh true same h =
    let nothing : own k past ≡ [] = fresh same in
    record {
      used = subst (λ (os : List Own). IsUsed n (solo (os ++ o ∷ []))) (sym nothing) (subst (λ (m : ℕ). IsUsed m (solo (o ∷ []))) (sym (h.none nothing)) first);
      none = λ e. absurd (not-nil (own k past) o e);
    }
add-open w n k j past o first legal fresh false same h = h

-- one event more
not-lost : (o : Outcome) → was_lost o ≡ false → o ≢ Lost
not-lost Ran e q = cc
not-lost Starved e q = cc
not-lost Lost e q = absurd (both_ways true e refl)

plain : {os : List Own} {n : ℕ} → IsCounted n os → IsCounted (n + 0) os
plain {os} {n} c = let plus : n ≡ n + 0 = omega arith in subst (λ (m : ℕ). IsCounted m os) plus c

event-counted : (w : ℕ) (k : Key) (past : List Event) (e : Event) → 1 ≤ w → w ≤ 64 → Legal w past → Allowed w past e → moves e ≡ false → is_loss e ≡ false → IsCounted (starts_of k past) (own k past) → IsCounted (starts_of k past + cond (is_start_of k e) 1 0) (own_step k (own k past) e)
event-counted w k past (Open j ask) some bound legal may still kept h =
    plain (add-open w (starts_of k past) k j past (Opened ask) (opened-used ask) legal (λ q. (legal-orderly w past legal).unknown k (subst (λ (x : Key). list_any (is_key x) (names_of past) ≡ false) (sym ((is_key-Decides k j).0 q)) may.fresh)) (is_key k j) refl h)
event-counted w k past (Revise j number r) some bound legal may still kept h = plain (add-other (starts_of k past) (is_key k j) (own k past) (Revised r) tt h)
event-counted w k past (Reask j weight) some bound legal may still kept h = plain (add-other (starts_of k past) (is_key k j) (own k past) (Reasked weight) tt h)
event-counted w k past (Close j) some bound legal may still kept h = plain (add-other (starts_of k past) (is_key k j) (own k past) Closed tt h)
event-counted w k past (Balance shares) some bound legal may still kept h =
    plain (adds_volume-keeps (IsCounted (starts_of k past)) (volume_in k shares) (own k past) h (add-other (starts_of k past) true (own k past) (Volume (volume_in k shares)) tt h))
event-counted w k past (Start j index worker) some bound legal may still kept h = add-start w (starts_of k past) k j past index worker some bound legal may (is_key k j) refl h
event-counted w k past (Finish j index worker outcome) some bound legal may still kept h = plain (add-other (starts_of k past) (is_key k j) (own k past) (Finished index outcome) (not-lost outcome kept) h)
event-counted w k past (Exchange j) some bound legal may still kept h = plain (add-other (starts_of k past) (is_key k j) (own k past) Exchanged tt h)
event-counted w k past (Leave j) some bound legal may still kept h = absurd (both_ways true still refl)
event-counted w k past (Arrive j brought) some bound legal may still kept h = absurd (both_ways true still refl)

starts-push : (k : Key) (past : List Event) (e : Event) → starts_of k (past ++ e ∷ []) ≡ starts_of k past + cond (is_start_of k e) 1 0
starts-push k past e = fold_push (λ (a : ℕ) (x : Event). a + cond (is_start_of k x) 1 0) 0 past e

-- and all that follow
all-counted : (w : ℕ) (k : Key) (past es : List Event) → 1 ≤ w → w ≤ 64 → Legal w past → LegalFrom w past es → list_any moves es ≡ false → NoneIsLost es → IsCounted (starts_of k past) (own k past) → IsCounted (starts_of k (past ++ es)) (own k (past ++ es))
all-counted w k past [] some bound legal from still kept h = subst (λ (x : List Event). IsCounted (starts_of k x) (own k x)) (sym (append-nil past)) h
all-counted w k past (e ∷ es) some bound legal from still kept h =
    let quiet = or_parts (moves e) (list_any moves es) still in
    let safe = or_parts (is_loss e) (list_any is_loss es) kept in
    let here : IsCounted (starts_of k past + cond (is_start_of k e) 1 0) (own_step k (own k past) e) = event-counted w k past e some bound legal from.0 quiet.0 safe.0 h in
    let next : IsCounted (starts_of k (past ++ e ∷ [])) (own k (past ++ e ∷ [])) = subst (λ (n : ℕ). IsCounted n (own k (past ++ e ∷ []))) (sym (starts-push k past e)) (subst (λ (os : List Own). IsCounted (starts_of k past + cond (is_start_of k e) 1 0) os) (sym (own-push k past e)) here) in
    subst (λ (x : List Event). IsCounted (starts_of k x) (own k x)) (append_assoc past (e ∷ []) es) (all-counted w k (past ++ e ∷ []) es some bound (Legal-push w past e legal from.0) from.1 quiet.1 safe.1 next)

job-counted : (w i : ℕ) (s : Scripted) (h : List Event) (j : ScriptedJob) → 1 ≤ w → w ≤ 64 → IsScript limits s → Legal w h → IsComplete s h → NoneIsLost h → slice_get s.jobs i ≡ Some j → starts_of (key_of_job j) h ≤ most_starts j
job-counted w i s h j some bound formed legal complete kept at =
    let did : Did (own (key_of_job j) h) j = run-did w i s h j formed legal complete at in
    let counted : IsCounted (starts_of (key_of_job j) h) (own (key_of_job j) h) = all-counted w (key_of_job j) [] h some bound tt legal complete.stay kept (record { used = empty-used; none = λ e. refl }) in
    let most : starts_of (key_of_job j) h ≤ length (solo (own (key_of_job j) h)).answers * ((solo (own (key_of_job j) h)).ask.slices + 2) = done-used (starts_of (key_of_job j) h) (solo (own (key_of_job j) h)) counted.used (did.answered ∙ sym (ap length did.revised)) in
    let same : length (solo (own (key_of_job j) h)).answers * ((solo (own (key_of_job j) h)).ask.slices + 2) ≡ most_starts j = ap₂ (λ (a b : ℕ). a * (b + 2)) did.answered did.slices in
    omega (arith, most, same)

pub job_is_bounded : JobIsBounded
job_is_bounded workers i s history log out j some bound formed run kept at = job-counted workers i s history j some bound formed run.legal run.complete kept at

-- ---- the sum over all jobs

-- each start is of a job of these
abbrev IsCovered : List ScriptedJob → Event → Type 0
IsCovered js (Open k ask) = Unit {0}
IsCovered js (Revise k number r) = Unit {0}
IsCovered js (Reask k weight) = Unit {0}
IsCovered js (Close k) = Unit {0}
IsCovered js (Balance shares) = Unit {0}
IsCovered js (Start k index worker) = list_any (λ j. is_key k (key_of_job j)) js ≡ true
IsCovered js (Finish k index worker outcome) = Unit {0}
IsCovered js (Exchange k) = Unit {0}
IsCovered js (Leave k) = Unit {0}
IsCovered js (Arrive k brought) = Unit {0}

-- sums of jobs
sum-split : (whole one other : ScriptedJob → ℕ) → ((j : ScriptedJob) → whole j ≡ one j + other j) → (js : List ScriptedJob) → sum_by whole js ≡ sum_by one js + sum_by other js
sum-split whole one other same [] = refl
sum-split whole one other same (j ∷ js) = omega (arith, sum_by-cons whole j js, sum_by-cons one j js, sum_by-cons other j js, same j, sum-split whole one other same js)

sum-most : (one other : ScriptedJob → ℕ) (front js : List ScriptedJob) → ((i : ℕ) (j : ScriptedJob) → slice_get (front ++ js) i ≡ Some j → one j ≤ other j) → sum_by one js ≤ sum_by other js
sum-most one other front [] low = omega arith
sum-most one other front (j ∷ js) low =
    let here : one j ≤ other j = low (length front) j (at front) in
    let rest : sum_by one js ≤ sum_by other js = sum-most one other (front ++ j ∷ []) js (λ i x q. low i x (sym (ap (λ (xs : List ScriptedJob). slice_get xs i) (append_assoc front (j ∷ []) js)) ∙ q)) in
    omega (arith, sum_by-cons one j js, sum_by-cons other j js, here, rest)
  where
    at : (xs : List ScriptedJob) → slice_get (xs ++ j ∷ js) (length xs) ≡ Some j
    at [] = refl
    at (x ∷ xs) = at xs

-- a start of one of them is counted
one-counted : (k : Key) (js : List ScriptedJob) → list_any (λ j. is_key k (key_of_job j)) js ≡ true → 1 ≤ sum_by (λ j. cond (is_key (key_of_job j) k) 1 0) js
one-counted k [] e = absurd (both_ways false refl e)
one-counted k (j ∷ js) e = by_key (is_key k (key_of_job j)) refl e (one-counted k js)
  where
    by_key : (b : Bool) → is_key k (key_of_job j) ≡ b → (b || list_any (λ i. is_key k (key_of_job i)) js) ≡ true → (list_any (λ i. is_key k (key_of_job i)) js ≡ true → 1 ≤ sum_by (λ i. cond (is_key (key_of_job i) k) 1 0) js) → 1 ≤ sum_by (λ i. cond (is_key (key_of_job i) k) 1 0) (j ∷ js)
    by_key true q r rest =
        let back : is_key (key_of_job j) k ≡ true = ap (λ (x : Key). is_key x k) (sym ((is_key-Decides k (key_of_job j)).0 q)) ∙ is_key-same k in
        let one : one_if (is_key (key_of_job j) k) ≡ 1 = ap one_if back in
        omega (arith, sum_by-cons (λ i. cond (is_key (key_of_job i) k) 1 0) j js, one)
    by_key false q r rest = omega (arith, sum_by-cons (λ i. cond (is_key (key_of_job i) k) 1 0) j js, rest r)

event-covered : (js : List ScriptedJob) (e : Event) → IsCovered js e → cond (is_start e) 1 0 ≤ sum_by (λ j. cond (is_start_of (key_of_job j) e) 1 0) js
event-covered js (Open k ask) is = omega arith
event-covered js (Revise k number r) is = omega arith
event-covered js (Reask k weight) is = omega arith
event-covered js (Close k) is = omega arith
event-covered js (Balance shares) is = omega arith
event-covered js (Start k index worker) is = one-counted k js is
event-covered js (Finish k index worker outcome) is = omega arith
event-covered js (Exchange k) is = omega arith
event-covered js (Leave k) is = omega arith
event-covered js (Arrive k brought) is = omega arith

starts-covered : (js : List ScriptedJob) (es : List Event) → AllByRecursion (IsCovered js) es → starts_in es ≤ sum_by (λ j. starts_of (key_of_job j) es) js
starts-covered js [] all = omega arith
starts-covered js (e ∷ es) all =
    let rest : starts_in es ≤ sum_by (λ j. starts_of (key_of_job j) es) js = starts-covered js es all.1 in
    let here : cond (is_start e) 1 0 ≤ sum_by (λ j. cond (is_start_of (key_of_job j) e) 1 0) js = event-covered js e all.0 in
    let split : sum_by (λ j. starts_of (key_of_job j) (e ∷ es)) js ≡ sum_by (λ j. cond (is_start_of (key_of_job j) e) 1 0) js + sum_by (λ j. starts_of (key_of_job j) es) js = sum-split (λ j. starts_of (key_of_job j) (e ∷ es)) (λ j. cond (is_start_of (key_of_job j) e) 1 0) (λ j. starts_of (key_of_job j) es) (λ j. sum_by-cons (λ x. cond (is_start_of (key_of_job j) x) 1 0) e es) js in
    omega (arith, sum_by-cons (λ x. cond (is_start x) 1 0) e es, rest, here, split)

-- a job that was opened is one of the script
opens-text : (k : Key) (e : Event) → opens k e ≡ true → is_post_of k.tenant e ≡ true
opens-text k (Open j ask) e = (and_parts (is_text k.tenant j.tenant) (is_text k.job j.job) e).0
opens-text k (Revise j number r) e = absurd (both_ways false refl e)
opens-text k (Reask j weight) e = absurd (both_ways false refl e)
opens-text k (Close j) e = absurd (both_ways false refl e)
opens-text k (Balance shares) e = absurd (both_ways false refl e)
opens-text k (Start j index worker) e = absurd (both_ways false refl e)
opens-text k (Finish j index worker outcome) e = absurd (both_ways false refl e)
opens-text k (Exchange j) e = absurd (both_ways false refl e)
opens-text k (Leave j) e = absurd (both_ways false refl e)
opens-text k (Arrive j brought) e = absurd (both_ways false refl e)

opens-posts : (k : Key) (es : List Event) → list_any (opens k) es ≡ true → list_any (opens k) (filter (is_post_of k.tenant) es) ≡ true
opens-posts k [] e = e
opens-posts k (x ∷ xs) e = by_test (opens k x) refl (is_post_of k.tenant x) refl e (opens-posts k xs)
  where
    by_test : (b : Bool) → opens k x ≡ b → (t : Bool) → is_post_of k.tenant x ≡ t → (b || list_any (opens k) xs) ≡ true → (list_any (opens k) xs ≡ true → list_any (opens k) (filter (is_post_of k.tenant) xs) ≡ true) → list_any (opens k) (cond t (x ∷ filter (is_post_of k.tenant) xs) (filter (is_post_of k.tenant) xs)) ≡ true
    by_test true q true p r rest = or_left (opens k x) (list_any (opens k) (filter (is_post_of k.tenant) xs)) q
    by_test true q false p r rest = absurd (both_ways (is_post_of k.tenant x) p (opens-text k x q))
    by_test false q true p r rest = ap (λ (b : Bool). b || list_any (opens k) (filter (is_post_of k.tenant) xs)) q ∙ rest r
    by_test false q false p r rest = rest r

opens-steps : (k j : Key) (n : ℕ) (ss : List Step) (later : List Event) → list_any (opens k) later ≡ false → list_any (opens k) (step_events j n ss ++ later) ≡ false
opens-steps k j n [] later e = e
opens-steps k j n (steps.Revise r ∷ ss) later e = opens-steps k j (n + 1) ss later e
opens-steps k j n (steps.Reask w ∷ ss) later e = opens-steps k j n ss later e

opens-jobs : (k : Key) (js : List ScriptedJob) → list_any (opens k) (flat_map job_events js) ≡ false
opens-jobs k [] = refl
opens-jobs k (j ∷ js) = list_any-append (opens k) (job_events j) (flat_map job_events js) ∙ ap₂ (λ (a b : Bool). a || b) (opens-steps k (key_of_job j) 1 j.steps (Close (key_of_job j) ∷ []) refl) (opens-jobs k js)

opens-openings : (k : Key) (js : List ScriptedJob) → list_any (opens k) (open_events js) ≡ list_any (λ j. is_key k (key_of_job j)) js
opens-openings k [] = refl
opens-openings k (j ∷ js) = ap (λ (b : Bool). is_key k (key_of_job j) || b) (opens-openings k js)

of-tenant : (k : Key) (js : List ScriptedJob) (test : ScriptedJob → Bool) → list_any (λ j. is_key k (key_of_job j)) (filter test js) ≡ true → list_any (λ j. is_key k (key_of_job j)) js ≡ true
of-tenant k [] test e = e
of-tenant k (j ∷ js) test e = by_test (test j) e (of-tenant k js test)
  where
    by_test : (b : Bool) → list_any (λ i. is_key k (key_of_job i)) (cond b (j ∷ filter test js) (filter test js)) ≡ true → (list_any (λ i. is_key k (key_of_job i)) (filter test js) ≡ true → list_any (λ i. is_key k (key_of_job i)) js ≡ true) → (is_key k (key_of_job j) || list_any (λ i. is_key k (key_of_job i)) js) ≡ true
    by_test true q rest = by_key (is_key k (key_of_job j)) q rest
      where
        by_key : (b : Bool) → (b || list_any (λ i. is_key k (key_of_job i)) (filter test js)) ≡ true → (list_any (λ i. is_key k (key_of_job i)) (filter test js) ≡ true → list_any (λ i. is_key k (key_of_job i)) js ≡ true) → (b || list_any (λ i. is_key k (key_of_job i)) js) ≡ true
        by_key true p more = refl
        by_key false p more = more p
    by_test false q rest = by_key (is_key k (key_of_job j)) (rest q)
      where
        by_key : (b : Bool) → list_any (λ i. is_key k (key_of_job i)) js ≡ true → (b || list_any (λ i. is_key k (key_of_job i)) js) ≡ true
        by_key true p = refl
        by_key false p = p

opened-job : (s : Scripted) (h : List Event) (k : Key) → IsComplete s h → list_any (opens k) h ≡ true → list_any (λ j. is_key k (key_of_job j)) s.jobs ≡ true
opened-job s h k complete e =
    let mine : List ScriptedJob = jobs_of_tenant k.tenant s in
    let posted : list_any (opens k) (posts_of k.tenant s) ≡ true = ap (list_any (opens k)) (sym (complete.posts k.tenant)) ∙ opens-posts k h e in
    let parts : (list_any (λ j. is_key k (key_of_job j)) mine || false) ≡ true = sym (list_any-append (opens k) (open_events mine) (flat_map job_events mine) ∙ ap₂ (λ (a b : Bool). a || b) (opens-openings k mine) (opens-jobs k mine)) ∙ posted in
    of-tenant k s.jobs (λ j. is_text k.tenant j.tenant) (only (list_any (λ j. is_key k (key_of_job j)) mine) parts)
  where
    only : (b : Bool) → (b || false) ≡ true → b ≡ true
    only true q = refl
    only false q = q

-- so each start of a history that is complete is of one of its jobs
key-among : (ks : List Key) (n : ℕ) (k : Key) → slice_get ks n ≡ Some k → list_any (is_key k) ks ≡ true
key-among [] n k e = absurd (cc)
key-among (x ∷ xs) zero k e = let same : k ≡ x = cc in or_left (is_key k x) (list_any (is_key k) xs) ((is_key-Decides k x).1 same)
key-among (x ∷ xs) (suc n) k e = by_test (is_key k x) (key-among xs n k e)
  where
    by_test : (b : Bool) → list_any (is_key k) xs ≡ true → (b || list_any (is_key k) xs) ≡ true
    by_test true q = refl
    by_test false q = q

one-covered : (w : ℕ) (js : List ScriptedJob) (past es : List Event) (e : Event) → list_any moves past ≡ false → ((k : Key) → list_any (opens k) (past ++ e ∷ es) ≡ true → list_any (λ j. is_key k (key_of_job j)) js ≡ true) → Allowed w past e → IsCovered js e
one-covered w js past es (Open k ask) still known may = tt
one-covered w js past es (Revise k number r) still known may = tt
one-covered w js past es (Reask k weight) still known may = tt
one-covered w js past es (Close k) still known may = tt
one-covered w js past es (Balance shares) still known may = tt
one-covered w js past es (Start k index worker) still known may =
    let there : is_there k past ≡ true = key-among (keys_of past) may.0.job k may.1.key in
    let opened : list_any (opens k) past ≡ true = sym (there-append k [] past still) ∙ there in
    known k (list_any-append (opens k) past (Start k index worker ∷ es) ∙ or_left (list_any (opens k) past) (list_any (opens k) (Start k index worker ∷ es)) opened)
one-covered w js past es (Finish k index worker outcome) still known may = tt
one-covered w js past es (Exchange k) still known may = tt
one-covered w js past es (Leave k) still known may = tt
one-covered w js past es (Arrive k brought) still known may = tt

all-covered : (w : ℕ) (js : List ScriptedJob) (past es : List Event) → list_any moves past ≡ false → list_any moves es ≡ false → ((k : Key) → list_any (opens k) (past ++ es) ≡ true → list_any (λ j. is_key k (key_of_job j)) js ≡ true) → LegalFrom w past es → AllByRecursion (IsCovered js) es
all-covered w js past [] still quiet known from = tt
all-covered w js past (e ∷ es) still quiet known from =
    let parts = or_parts (moves e) (list_any moves es) quiet in (
      one-covered w js past es e still known from.0,
      all-covered w js (past ++ e ∷ []) es (list_any-append moves past (e ∷ []) ∙ ap₂ (λ (a b : Bool). a || (b || false)) still parts.0) parts.1 (λ k q. known k (sym (ap (list_any (opens k)) (append_assoc past (e ∷ []) es)) ∙ q)) from.1,
    )

pub run_is_bounded : RunIsBounded
run_is_bounded workers s history log out some bound formed run kept =
    let covered : AllByRecursion (IsCovered s.jobs) history = all-covered workers s.jobs [] history refl run.complete.stay (λ k q. opened-job s history k run.complete q) run.legal in
    let all : starts_in history ≤ sum_by (λ j. starts_of (key_of_job j) history) s.jobs = starts-covered s.jobs history covered in
    let most : sum_by (λ j. starts_of (key_of_job j) history) s.jobs ≤ sum_by most_starts s.jobs = sum-most (λ j. starts_of (key_of_job j) history) most_starts [] s.jobs (λ i j at. job-counted workers i s history j some bound formed run.legal run.complete kept at) in
    omega (arith, all, most)
