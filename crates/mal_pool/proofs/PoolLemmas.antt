-- What the hall's calls say, for a script that is posted and answered.
use Rattle.std.proofs.Common.{◌≡◌, ℕ, zero, suc, ◌+◌, ◌<◌, ◌≤◌, List, [], ◌∷◌, ◌++◌, length, map, take, get_or, flat_map, Option, Some, Result, Ok, Err, sym, ◌∙◌, ap, arith, append-nil, append_assoc, length-append, refl, subst}
use Rattle.std.specs.Prelude.{OnOk}
use Rattle.std.specs.List.{All, list_any}
use Rattle.std.proofs.lemmas.Grind.{flat_map-append}
use Rattle.std.proofs.lemmas.List.Elements.{All-nil, All-head, All-tail, All-append}
use Rattle.std.proofs.lemmas.List.{take_all, take_more, length-take-le}
use native.Mathlib.Numerals.{unary_clauses}
use Rattle.mal_hall.specs.HallView.{HallView}
use Rattle.mal_pool.specs.Posts.{IsKnown, AreKnown, HasRun, replies_at}
use Rattle.mal_revision.specs.Posted.{Posted}
use Rattle.spec_job.specs.Replies.{reply}
use Rattle.spec_job.specs.SoloMachine.{SoloMachine, solo}
use Rattle.spec_job.specs.KeyedJob.{Key, KeyedJob}
use Rattle.spec_hall.specs.Events.{Event, Close, Reask, Revise}
use Rattle.spec_hall.specs.Driven.{GrowsByTurns}
use Rattle.spec_hall.specs.Own.{own, is_key}
use Rattle.spec_hall.specs.States.{keys_of, states, titled, lives, leases}
use Rattle.spec_hall.specs.Legal.{Legal, LegalFrom, job_of}
use Rattle.spec_hall.proofs.RunnableLemmas.{find-titled}
use Rattle.spec_run.specs.Complete.{key_of_job, job_events, open_events, script_events, step_events}
use Rattle.spec_run.specs.Posting.{IsOpen}
use Rattle.spec_run.specs.Run.{text_or_none, replies_from, job_replies, replies}
use Rattle.spec_run.proofs.KeyLemmas.{among-keys, among-parts, job-found}
use Rattle.spec_run.proofs.OpenLemmas.{open-found, open-may_reask, reasked-is_open, revised-is_open}
use Rattle.spec_run.proofs.PostingLemmas.{next-may_revise, next-weighed}
use Rattle.spec_run.proofs.CompleteLemmas.{grown-keys, grown-complete}
use Rattle.spec_script.specs.Formed.{IsJob}
use Rattle.mal_base.specs.Limits.{limits}
use Rattle.spec_script.specs.Script.{ScriptedJob, Scripted, revisions_at, revisions_in}
use Rattle.spec_script.specs.declared.step.Step.{Step}
use Rattle.spec_script.specs.declared.step.Step.TheVariants as steps

take-front : {A : Type 0} (xs ys : List A) → take (length xs) (xs ++ ys) ≡ xs
take-front [] ys = refl
take-front (x ∷ xs) ys = ap (λ zs. x ∷ zs) (take-front xs ys)

read-front : {A : Type 0} (xs : List A) (y : A) (ys : List A) → y ≡ get_or (xs ++ y ∷ ys) (length xs) y
read-front [] y ys = refl
read-front (x ∷ xs) y ys = read-front xs y ys

-- what a job posts after some of its steps is legal where they are posted
rest-legal : (w : ℕ) (j : ScriptedJob) (front back : List Step) (h : List Event) (n : ℕ) → IsJob limits j → j.steps ≡ front ++ back → n ≡ length (revisions_in front) + 1 → IsOpen (key_of_job j) (revisions_in front) h → LegalFrom w h (step_events (key_of_job j) n back ++ Close (key_of_job j) ∷ [])
rest-legal w j front [] h n formed are number opened =
    ((titled h (key_of_job j), record { job = open-found (key_of_job j) (revisions_in front) h opened; open_still = opened.unclosed }), tt)
rest-legal w j front (steps.Revise r ∷ back) h n formed are number opened = (
  (titled h k, next-may_revise j h (length front) n r formed (subst (λ (ss : List Step). IsOpen k (revisions_in ss) h) (sym before) opened) low (subst (λ (ss : List Step). steps.Revise r ≡ get_or ss (length front) (steps.Revise r)) (sym are) (read-front front (steps.Revise r) back)) (number ∙ ap (λ (ss : List Step). length (revisions_in ss) + 1) (sym before))),
  rest-legal w j (front ++ steps.Revise r ∷ []) back (h ++ Revise k n r ∷ []) (n + 1) formed (are ∙ sym (append_assoc front (steps.Revise r ∷ []) back)) later (subst (λ (rs : List Posted). IsOpen k rs (h ++ Revise k n r ∷ [])) (sym more) (revised-is_open k (revisions_in front) h n r opened)),
)
  where
    k : Key
    k = key_of_job j

    before : take (length front) j.steps ≡ front
    before = ap (take (length front)) are ∙ take-front front (steps.Revise r ∷ back)

    low : length front < length j.steps
    low = omega (arith, ap length are, length-append front (steps.Revise r ∷ back))

    more : revisions_in (front ++ steps.Revise r ∷ []) ≡ revisions_in front ++ r ∷ []
    more = flat_map-append revisions_at front (steps.Revise r ∷ [])

    later : n + 1 ≡ length (revisions_in (front ++ steps.Revise r ∷ [])) + 1
    later = omega (arith, number, ap length more, length-append (revisions_in front) (r ∷ []))
rest-legal w j front (steps.Reask weight ∷ back) h n formed are number opened = (
  (titled h k, open-may_reask k (revisions_in front) h weight opened (next-weighed j (length front) weight formed low at)),
  rest-legal w j (front ++ steps.Reask weight ∷ []) back (h ++ Reask k weight ∷ []) n formed (are ∙ sym (append_assoc front (steps.Reask weight ∷ []) back)) (number ∙ ap (λ (rs : List Posted). length rs + 1) (sym same)) (subst (λ (rs : List Posted). IsOpen k rs (h ++ Reask k weight ∷ [])) (sym same) (reasked-is_open k (revisions_in front) h weight opened)),
)
  where
    k : Key
    k = key_of_job j

    low : length front < length j.steps
    low = omega (arith, ap length are, length-append front (steps.Reask weight ∷ back))

    at : steps.Reask weight ≡ get_or j.steps (length front) (steps.Reask weight)
    at = subst (λ (ss : List Step). steps.Reask weight ≡ get_or ss (length front) (steps.Reask weight)) (sym are) (read-front front (steps.Reask weight) back)

    same : revisions_in (front ++ steps.Reask weight ∷ []) ≡ revisions_in front
    same = flat_map-append revisions_at front (steps.Reask weight ∷ []) ∙ append-nil (revisions_in front)

-- all that a job posts is legal where it is open and has no revision
pub job-legal : (w : ℕ) (h : List Event) (j : ScriptedJob) → IsOpen (key_of_job j) [] h → IsJob limits j → LegalFrom w h (job_events j)
job-legal w h j opened formed = rest-legal w j [] j.steps h 1 formed refl refl opened

-- a script was posted whose jobs were opened and then posted
pub all-posted : {E : Type 0} (s : Scripted) (opening posting : List ScriptedJob) (opened now : List Event) (r : Result (Unit {0}) E) → opening ≡ s.jobs → posting ≡ s.jobs → opened ≡ open_events opening → OnOk r (now ≡ opened ++ flat_map job_events posting) → OnOk r (now ≡ script_events s)
all-posted s opening posting opened now (Ok done) a b is posted =
    posted ∙ (ap (λ (js : List ScriptedJob). opened ++ flat_map job_events js) b ∙ ap (λ (es : List Event). es ++ flat_map job_events s.jobs) (is ∙ ap open_events a))
all-posted s opening posting opened now (Err e) a b is posted = tt

-- the jobs of a script are known to a history that has their keys
known-all : (h : List Event) (before js : List ScriptedJob) → keys_of h ≡ map key_of_job (before ++ js) → AreKnown h js
known-all h before [] keys = tt
known-all h before (j ∷ js) keys = (
  (titled h (key_of_job j), job-found h (key_of_job j) (ap (λ (ks : List Key). list_any (is_key (key_of_job j)) ks) keys ∙ (among-keys (key_of_job j) (before ++ j ∷ js) ∙ among-parts before j js))),
  known-all h (before ++ j ∷ []) js (keys ∙ ap (map key_of_job) (sym (append_assoc before (j ∷ []) js))),
)

-- a hall in which a script was posted and that went on by turns until no job was live has run it
pub has-run : (workers : ℕ) (s : Scripted) (h : HallView) → h.workers ≡ workers → Legal h.workers h.events → GrowsByTurns workers (script_events s) h.events → lives (states h.events) ≡ [] → leases h.events ≡ [] → HasRun workers s h
has-run workers s h are legal grows answered home = record {
  workers_are = are;
  legal = legal;
  complete = grown-complete workers s h.events grows answered home;
  known = known-all h.events [] s.jobs (grown-keys workers s h.events grows);
}

-- each job of a script that was run is known
pub known-at : (h : List Event) (js : List ScriptedJob) (i : ℕ) (j : ScriptedJob) → AreKnown h js → i < length js → j ≡ get_or js i j → IsKnown h j
known-at h [] i j are low is = absurd (omega arith)
known-at h (k ∷ ks) zero j are low is = subst (λ (x : ScriptedJob). IsKnown h x) (sym is) are.0
known-at h (k ∷ ks) (suc i) j are low is = known-at h ks i j are.1 (omega arith) is

-- the reply of a job that is found
pub reply-is : (k : Key) (n : ℕ) (h : List Event) (t : KeyedJob) (v : Option (List ℕ)) → job_of k (states h) ≡ Some t → reply k n t.state ≡ v → text_or_none (reply k n (solo (own k h))) ≡ text_or_none v
reply-is k n h t v found e =
    ap (λ (x : KeyedJob). text_or_none (reply k n x.state)) (find-titled h k (keys_of h) t found) ∙ ap text_or_none e

-- the replies to one revision more
replies-more : (k : Key) (n : ℕ) (s : SoloMachine) (ps : List Posted) (p : Posted) → replies_from k n s (ps ++ p ∷ []) ≡ replies_from k n s ps ++ text_or_none (reply k (n + length ps) s)
replies-more k n s [] p = append-nil (text_or_none (reply k n s)) ∙ ap (λ (m : ℕ). text_or_none (reply k m s)) (plus-zero n)
  where
    plus-zero : (m : ℕ) → m ≡ m + 0
    plus-zero m = omega arith
replies-more k n s (q ∷ qs) p =
    ap (λ (x : List ℕ). text_or_none (reply k n s) ++ x) (replies-more k (n + 1) s qs p ∙ ap (λ (m : ℕ). replies_from k (n + 1) s qs ++ text_or_none (reply k m s)) (plus-one n (length qs)))
    ∙ sym (append_assoc (text_or_none (reply k n s)) (replies_from k (n + 1) s qs) (text_or_none (reply k (n + suc (length qs)) s)))
  where
    plus-one : (m l : ℕ) → (m + 1) + l ≡ m + suc l
    plus-one m l = omega arith

pub put-more : (k : Key) (s : SoloMachine) (rs : List Posted) (i n : ℕ) (old text after : List ℕ) → text ≡ old ++ replies_from k 1 s (take i rs) → after ≡ text ++ text_or_none (reply k n s) → n ≡ i + 1 → i < length rs → after ≡ old ++ replies_from k 1 s (take (i + 1) rs)
put-more k s rs i n old text after e step number low =
    let r : Posted = get_or rs i (record { variables = 0; clauses = []; assumptions = [] }) in
    let count : length (take i rs) ≡ i = length-take-le i rs (omega arith) in
    let place : n ≡ 1 + length (take i rs) = omega arith in
    step ∙ (ap (λ (x : List ℕ). x ++ text_or_none (reply k n s)) e
    ∙ (append_assoc old (replies_from k 1 s (take i rs)) (text_or_none (reply k n s))
    ∙ ap (λ (x : List ℕ). old ++ x) (ap (λ (m : ℕ). replies_from k 1 s (take i rs) ++ text_or_none (reply k m s)) place
    ∙ (sym (replies-more k 1 s (take i rs) r) ∙ ap (replies_from k 1 s) (sym (take_more rs i (record { variables = 0; clauses = []; assumptions = [] }) low))))))

pub put-all : (k : Key) (s : SoloMachine) (rs : List Posted) (i : ℕ) (old text : List ℕ) → text ≡ old ++ replies_from k 1 s (take i rs) → length rs ≤ i → text ≡ old ++ replies_from k 1 s rs
put-all k s rs i old text e all = e ∙ ap (λ (x : List Posted). old ++ replies_from k 1 s x) (take_all i rs all)

-- the replies to one job more
replied-next : (h : List Event) (js : List ScriptedJob) (i : ℕ) → i < length js → flat_map (job_replies h) (take (suc i) js) ≡ flat_map (job_replies h) (take i js) ++ replies_at h js i
replied-next h [] i low = absurd (omega arith)
replied-next h (j ∷ js) zero low = append-nil (job_replies h j)
replied-next h (j ∷ js) (suc i) low =
    ap (λ (x : List ℕ). job_replies h j ++ x) (replied-next h js i (omega arith))
    ∙ sym (append_assoc (job_replies h j) (flat_map (job_replies h) (take i js)) (replies_at h js i))

pub replied-more : (h : List Event) (js : List ScriptedJob) (i : ℕ) (old text : List ℕ) → old ≡ flat_map (job_replies h) (take i js) → i < length js → text ≡ old ++ replies_at h js i → text ≡ flat_map (job_replies h) (take (i + 1) js)
replied-more h js i old text before low more = simp unary_clauses (more ∙ (ap (λ (x : List ℕ). x ++ replies_at h js i) before ∙ sym (replied-next h js i low)))

-- what holds of all in each list holds of all in the lists put together
pub all-in : {X Y : Type 0} (P : X → Type 0) (f : Y → List X) (ys : List Y) → All (λ y. All P (f y)) ys → All P (flat_map f ys)
all-in P f [] all = All-nil P
all-in P f (y ∷ ys) all = All-append P (f y) (flat_map f ys) (All-head (λ z. All P (f z)) y ys all) (all-in P f ys (All-tail (λ z. All P (f z)) y ys all))

pub replied-all : (s : Scripted) (h : List Event) (js : List ScriptedJob) (i : ℕ) (text : List ℕ) → js ≡ s.jobs → text ≡ flat_map (job_replies h) (take i js) → length js ≤ i → text ≡ replies s h
unfolding replies
replied-all s h js i text is e all = e ∙ ap (flat_map (job_replies h)) (take_all i js all ∙ is)
