-- A script that is posted job by job: what stands of each job, and what may be posted next.
use Rattle.std.proofs.Common.{◌≡◌, ℕ, suc, ◌+◌, ◌<◌, ◌≤◌, Bool, true, false, ◌||◌, cond, List, [], ◌∷◌, ◌++◌, length, map, flat_map, fold, Some, refl, sym, ◌∙◌, ap, arith, append-nil, append_assoc, subst}
use Rattle.std.specs.List.{list_any}
use Rattle.std.proofs.lemmas.Bool.{and_parts, or_parts, or_left, ltb-true}
use Rattle.std.proofs.lemmas.List.{map-append}
use Rattle.std.proofs.lemmas.List.Sums.{fold-append}
use Rattle.std.proofs.lemmas.List.Folds.{list_any-append}
use Rattle.mal_base.specs.Limits.{limits}
use Rattle.mal_base.specs.Asks.{IsWeight, Weighed}
use Rattle.mal_base.specs.Formulas.{literals_of}
use Rattle.mal_revision.specs.Posted.{Posted, is_posted}
use Rattle.spec_job.specs.SoloMachine.{Own, Opened, Revised, Reasked, Closed, SoloMachine, solo, solo_step, clauses_in, literals_in}
use Rattle.spec_job.specs.KeyedJob.{Key}
use Rattle.spec_hall.specs.Events.{Event, Open, Revise, Reask, Close}
use Rattle.spec_hall.specs.Own.{own, own_step, is_key}
use Rattle.spec_hall.specs.States.{names_of, names_step, states, titled}
use Rattle.spec_hall.specs.Legal.{MayOpen, MayRevise, MayReask, job_of, jobs_of, tenant_count}
use Rattle.spec_hall.proofs.KeyLemmas.{is_key-Decides}
use Rattle.spec_hall.proofs.PushLemmas.{own-push, solo-push, keys-push}
use Rattle.spec_hall.proofs.VolumeLemmas.{revise-keeps}
use Rattle.spec_run.specs.Complete.{key_of_job, job_events, open_events, step_events}
use Rattle.spec_run.specs.Posting.{IsOpen}
use Rattle.spec_run.proofs.KeyLemmas.{posted-keys, begun-keys, job-found, among-keys, among-parts, adds-mine}
use Rattle.spec_run.proofs.TenantLemmas.{jobs-counted, tenant-fits}
use Rattle.spec_script.specs.Formed.{MayFollow, MayAllFollow}
use Rattle.mal_base.specs.declared.limits.Limits.{Limits}
use Rattle.spec_script.specs.Script.{ScriptedJob, revisions_in}
use Rattle.spec_script.specs.declared.step.Step.{Step}
use Rattle.spec_script.specs.declared.step.Step.TheVariants as steps

-- no job of these has the key
abbrev pub IsApart : Key → List ScriptedJob → Type 0
IsApart k js = list_any (λ i. is_key k (key_of_job i)) js ≡ false

-- a job of a script in form may follow those before it, and those after it may follow it
pub follow-split : (limits : Limits) (done before : List ScriptedJob) (j : ScriptedJob) (after : List ScriptedJob) → MayAllFollow limits done (before ++ j ∷ after) → MayFollow limits (done ++ before) j × MayAllFollow limits ((done ++ before) ++ j ∷ []) after
follow-split limits done [] j after h = subst (λ (x : List ScriptedJob). MayFollow limits x j × MayAllFollow limits (x ++ j ∷ []) after) (sym (append-nil done)) h
follow-split limits done (i ∷ is) j after h =
    subst (λ (x : List ScriptedJob). MayFollow limits x j × MayAllFollow limits (x ++ j ∷ []) after) (append_assoc done (i ∷ []) is) (follow-split limits (done ++ i ∷ []) is j after h.1)

true-not-false : true ≡ false → ⊥
true-not-false q = cc

-- jobs that follow one of this key have other keys
apart-after : (limits : Limits) (k : Key) (done js : List ScriptedJob) → list_any (λ i. is_key k (key_of_job i)) done ≡ true → MayAllFollow limits done js → IsApart k js
apart-after limits k done [] among h = refl
apart-after limits k done (j ∷ js) among h = by_test (is_key k (key_of_job j)) refl (apart-after limits k (done ++ j ∷ []) js still h.1)
  where
    still : list_any (λ i. is_key k (key_of_job i)) (done ++ j ∷ []) ≡ true
    still = list_any-append (λ i. is_key k (key_of_job i)) done (j ∷ []) ∙ or_left (list_any (λ i. is_key k (key_of_job i)) done) (is_key k (key_of_job j) || false) among

    by_test : (b : Bool) → is_key k (key_of_job j) ≡ b → list_any (λ i. is_key k (key_of_job i)) js ≡ false → (b || list_any (λ i. is_key k (key_of_job i)) js) ≡ false
    by_test true e rest = absurd (true-not-false (sym (subst (λ (x : Key). list_any (λ i. is_key x (key_of_job i)) done ≡ true) ((is_key-Decides k (key_of_job j)).0 e) among) ∙ h.0.new))
    by_test false e rest = rest

-- a job of a script in form, with those before it and those after it, all of other keys
pub record IsPart (before : List ScriptedJob) (j : ScriptedJob) (after : List ScriptedJob) : Type 0 where
  pub first : IsApart (key_of_job j) before
  pub last : IsApart (key_of_job j) after

pub part-of : (limits : Limits) (before : List ScriptedJob) (j : ScriptedJob) (after : List ScriptedJob) → MayAllFollow limits [] (before ++ j ∷ after) → IsPart before j after
part-of limits before j after h =
    let parts = follow-split limits [] before j after h in
    record { first = parts.0.new; last = apart-after limits (key_of_job j) (before ++ j ∷ []) after (among-parts before j []) parts.1 }

-- the openings of a script's jobs name them, each once
pub opened-names : (limits : Limits) (done js : List ScriptedJob) → MayAllFollow limits done js → fold names_step (map key_of_job done) (open_events js) ≡ map key_of_job (done ++ js)
opened-names limits done [] follow = ap (map key_of_job) (sym (append-nil done))
opened-names limits done (j ∷ js) follow =
    ap (λ (b : Bool). fold names_step (cond b (map key_of_job done) (map key_of_job done ++ key_of_job j ∷ [])) (open_events js)) (among-keys (key_of_job j) done ∙ follow.0.new)
    ∙ (ap (λ (names : List Key). fold names_step names (open_events js)) (sym (map-append key_of_job done (j ∷ [])))
    ∙ (opened-names limits (done ++ j ∷ []) js follow.1 ∙ ap (map key_of_job) (append_assoc done (j ∷ []) js)))

-- the next job of a script may be opened
pub next-may_open : (h : List Event) (js : List ScriptedJob) (j : ScriptedJob) → names_of h ≡ map key_of_job js → MayFollow limits js j → MayOpen h (key_of_job j) j.ask
next-may_open h js j names follow = record {
  tenant = follow.formed.tenant;
  job = follow.formed.name;
  asked = follow.formed.ask;
  fresh = ap (list_any (is_key (key_of_job j))) names ∙ (among-keys (key_of_job j) js ∙ follow.new);
  tenant_room = subst (λ (n : ℕ). n < limits.jobs_of_tenant) (sym (count ∙ jobs-counted j.tenant js)) (ltb-true _ limits.jobs_of_tenant (and_parts _ _ follow.room).0);
  hall_room = λ e. subst (λ (ks : List Key). tenant_count ks < limits.tenants) (sym names) (tenant-fits js j limits.tenants follow.tenants (sym count ∙ e));
}
  where
    count : jobs_of j.tenant (names_of h) ≡ jobs_of j.tenant (map key_of_job js)
    count = ap (jobs_of j.tenant) names

-- events of other jobs leave a job's own events as they are
others-opened : (k : Key) (js : List ScriptedJob) (os : List Own) → IsApart k js → fold (own_step k) os (open_events js) ≡ os
others-opened k [] os apart = refl
others-opened k (j ∷ js) os apart =
    let parts = or_parts (is_key k (key_of_job j)) (list_any (λ i. is_key k (key_of_job i)) js) apart in
    ap (λ (b : Bool). fold (own_step k) (cond b (os ++ Opened j.ask ∷ []) os) (open_events js)) parts.0 ∙ others-opened k js os parts.1

others-stepped : (k i : Key) (n : ℕ) (ss : List Step) (os : List Own) → is_key k i ≡ false → fold (own_step k) os (step_events i n ss) ≡ os
others-stepped k i n [] os other = refl
others-stepped k i n (steps.Revise r ∷ ss) os other =
    ap (λ (b : Bool). fold (own_step k) (cond b (os ++ Revised r ∷ []) os) (step_events i (n + 1) ss)) other ∙ others-stepped k i (n + 1) ss os other
others-stepped k i n (steps.Reask w ∷ ss) os other =
    ap (λ (b : Bool). fold (own_step k) (cond b (os ++ Reasked w ∷ []) os) (step_events i n ss)) other ∙ others-stepped k i n ss os other

other-posted : (k : Key) (j : ScriptedJob) (os : List Own) → is_key k (key_of_job j) ≡ false → fold (own_step k) os (job_events j) ≡ os
other-posted k j os other =
    fold-append (own_step k) os (step_events (key_of_job j) 1 j.steps) (Close (key_of_job j) ∷ [])
    ∙ (ap (λ (x : List Own). own_step k x (Close (key_of_job j))) (others-stepped k (key_of_job j) 1 j.steps os other)
    ∙ ap (λ (b : Bool). cond b (os ++ Closed ∷ []) os) other)

others-posted : (k : Key) (js : List ScriptedJob) (os : List Own) → IsApart k js → fold (own_step k) os (flat_map job_events js) ≡ os
others-posted k [] os apart = refl
others-posted k (j ∷ js) os apart =
    let parts = or_parts (is_key k (key_of_job j)) (list_any (λ i. is_key k (key_of_job i)) js) apart in
    fold-append (own_step k) os (job_events j) (flat_map job_events js)
    ∙ (ap (λ (x : List Own). fold (own_step k) x (flat_map job_events js)) (other-posted k j os parts.0) ∙ others-posted k js os parts.1)

-- the own events of a job that was opened and of which nothing is posted yet
opened-own : (before : List ScriptedJob) (j : ScriptedJob) (after : List ScriptedJob) (os : List Own) → IsPart before j after → fold (own_step (key_of_job j)) os (open_events (before ++ j ∷ after)) ≡ os ++ Opened j.ask ∷ []
opened-own before j after os part =
    ap (fold (own_step (key_of_job j)) os) (map-append (λ i. Open (key_of_job i) i.ask) before (j ∷ after))
    ∙ (fold-append (own_step (key_of_job j)) os (open_events before) (open_events (j ∷ after))
    ∙ (ap (λ (x : List Own). fold (own_step (key_of_job j)) x (open_events (j ∷ after))) (others-opened (key_of_job j) before os part.first)
    ∙ (ap (λ (x : List Own). fold (own_step (key_of_job j)) x (open_events after)) (adds-mine (key_of_job j) os (Opened j.ask))
    ∙ others-opened (key_of_job j) after (os ++ Opened j.ask ∷ []) part.last)))

pub next-own : (before : List ScriptedJob) (j : ScriptedJob) (after : List ScriptedJob) → IsPart before j after → own (key_of_job j) (open_events (before ++ j ∷ after) ++ flat_map job_events before) ≡ Opened j.ask ∷ []
next-own before j after part =
    fold-append (own_step (key_of_job j)) [] (open_events (before ++ j ∷ after)) (flat_map job_events before)
    ∙ (ap (λ (x : List Own). fold (own_step (key_of_job j)) x (flat_map job_events before)) (opened-own before j after [] part)
    ∙ others-posted (key_of_job j) before (Opened j.ask ∷ []) part.first)

-- the job whose turn it is to be posted
pub next-is_open : (before : List ScriptedJob) (j : ScriptedJob) (after : List ScriptedJob) → IsPart before j after → IsOpen (key_of_job j) [] (open_events (before ++ j ∷ after) ++ flat_map job_events before)
next-is_open before j after part =
    let mine = next-own before j after part in
    record {
      known = ap (list_any (is_key (key_of_job j))) (begun-keys (before ++ j ∷ after) (flat_map job_events before) (posted-keys before)) ∙ (among-keys (key_of_job j) (before ++ j ∷ after) ∙ among-parts before j after);
      unclosed = ap (λ (os : List Own). (solo os).closed) mine;
      posted = ap (λ (os : List Own). (solo os).revisions) mine;
    }

-- one revision more
pub revised-is_open : (k : Key) (rs : List Posted) (h : List Event) (n : ℕ) (r : Posted) → IsOpen k rs h → IsOpen k (rs ++ r ∷ []) (h ++ Revise k n r ∷ [])
revised-is_open k rs h n r is =
    let step : solo (own k (h ++ Revise k n r ∷ [])) ≡ solo_step (solo (own k h)) (Revised r) = ap solo (own-push k h (Revise k n r) ∙ adds-mine k (own k h) (Revised r)) ∙ solo-push (own k h) (Revised r) in
    let keeps = revise-keeps (solo (own k h)) r in
    record {
      known = ap (list_any (is_key k)) (keys-push h (Revise k n r)) ∙ is.known;
      unclosed = ap (λ (s : SoloMachine). s.closed) step ∙ (keeps.closed ∙ is.unclosed);
      posted = ap (λ (s : SoloMachine). s.revisions) step ∙ (keeps.revisions ∙ ap (λ (x : List Posted). x ++ r ∷ []) is.posted);
    }

-- an ask that changes
pub reasked-is_open : (k : Key) (rs : List Posted) (h : List Event) (w : Weighed) → IsOpen k rs h → IsOpen k rs (h ++ Reask k w ∷ [])
reasked-is_open k rs h w is =
    let step : solo (own k (h ++ Reask k w ∷ [])) ≡ solo_step (solo (own k h)) (Reasked w) = ap solo (own-push k h (Reask k w) ∙ adds-mine k (own k h) (Reasked w)) ∙ solo-push (own k h) (Reasked w) in
    record {
      known = ap (list_any (is_key k)) (keys-push h (Reask k w)) ∙ is.known;
      unclosed = ap (λ (s : SoloMachine). s.closed) step ∙ is.unclosed;
      posted = ap (λ (s : SoloMachine). s.revisions) step ∙ is.posted;
    }

-- the job that is open is found
pub open-found : (k : Key) (rs : List Posted) (h : List Event) → IsOpen k rs h → job_of k (states h) ≡ Some (titled h k)
open-found k rs h is = job-found h k is.known

-- its next revision may be posted where there is room for it
pub open-may_revise : (k : Key) (rs : List Posted) (h : List Event) (n : ℕ) (r : Posted) → IsOpen k rs h → is_posted r ≡ true → n ≡ length rs + 1 → n ≤ limits.revisions → clauses_in rs + length r.clauses ≤ limits.clauses → literals_in rs + literals_of r.clauses ≤ limits.literals → MayRevise h k n r (titled h k)
open-may_revise k rs h n r is formed number few clauses literals = record {
  job = open-found k rs h is;
  open_still = is.unclosed;
  posted = formed;
  next = number ∙ ap (λ (x : List Posted). length x + 1) (sym is.posted);
  room = few;
  clause_room = subst (λ (x : List Posted). clauses_in x + length r.clauses ≤ limits.clauses) (sym is.posted) clauses;
  literal_room = subst (λ (x : List Posted). literals_in x + literals_of r.clauses ≤ limits.literals) (sym is.posted) literals;
}

-- its ask may change
pub open-may_reask : (k : Key) (rs : List Posted) (h : List Event) (w : Weighed) → IsOpen k rs h → IsWeight w → MayReask h k w (titled h k)
open-may_reask k rs h w is weighed = record { job = open-found k rs h is; open_still = is.unclosed; weighed = weighed }

-- steps that are posted one by one
pub revise-more : (k : Key) (n : ℕ) (ss : List Step) (r : Posted) → step_events k n (ss ++ steps.Revise r ∷ []) ≡ step_events k n ss ++ Revise k (n + length (revisions_in ss)) r ∷ []
revise-more k n [] r = ap (λ (m : ℕ). Revise k m r ∷ []) (plus-zero n)
  where
    plus-zero : (m : ℕ) → m ≡ m + 0
    plus-zero m = omega arith
revise-more k n (steps.Revise q ∷ ss) r = ap (λ (x : List Event). Revise k n q ∷ x) (revise-more k (n + 1) ss r ∙ ap (λ (m : ℕ). step_events k (n + 1) ss ++ Revise k m r ∷ []) (plus-one n (length (revisions_in ss))))
  where
    plus-one : (m l : ℕ) → (m + 1) + l ≡ m + suc l
    plus-one m l = omega arith
revise-more k n (steps.Reask w ∷ ss) r = ap (λ (x : List Event). Reask k w ∷ x) (revise-more k n ss r)
