-- A script that is posted job by job: what is true before each step, and after it.
use Rattle.std.proofs.Common.{◌≡◌, ℕ, zero, suc, ◌+◌, ◌<◌, ◌≤◌, Bool, true, List, [], ◌∷◌, ◌++◌, length, take, drop, get_or, flat_map, nat_le, sum_by, length-append, sym, ◌∙◌, ap, arith, append_assoc, subst}
use Rattle.std.specs.List.{list_all}
use Rattle.std.proofs.lemmas.Bool.{and_parts, leb-true}
use Rattle.std.proofs.lemmas.List.{map-append, take-append-drop, drop_more, take_more, take_all, flat_map_more}
use Rattle.std.proofs.lemmas.List.Sums.{sum_by-append, sum_by-cons}
use Rattle.std.proofs.lemmas.Grind.{flat_map-append}
use Rattle.mal_base.specs.Limits.{limits}
use Rattle.mal_base.specs.Asks.{IsWeight, Weighed}
use Rattle.mal_base.specs.Formulas.{literals_of}
use Rattle.mal_revision.specs.Posted.{Posted, is_posted}
use Rattle.spec_job.specs.SoloMachine.{clauses_in, literals_in}
use Rattle.spec_job.specs.KeyedJob.{Key}
use Rattle.spec_hall.specs.Events.{Event, Open, Revise}
use Rattle.spec_hall.specs.States.{names_of, titled}
use Rattle.spec_hall.specs.Legal.{MayOpen, MayRevise}
use Rattle.spec_run.specs.Complete.{key_of_job, job_events, open_events, step_events}
use Rattle.spec_run.specs.Posting.{IsOpen}
use Rattle.spec_run.proofs.OpenLemmas.{IsPart, follow-split, part-of, opened-names, next-may_open, next-is_open, open-may_revise, revise-more}
use Rattle.spec_script.specs.Formed.{IsJob, is_step, is_up_to, is_weight, MayFollow, MayAllFollow}
use Rattle.mal_base.specs.declared.limits.Limits.{Limits}
use Rattle.spec_script.specs.Script.{ScriptedJob, revisions, revisions_at, revisions_in}
use Rattle.spec_script.specs.declared.step.Step.{Step}
use Rattle.spec_script.specs.declared.step.Step.TheVariants as steps

-- a list at one of its items: those before it, it, and those after it
pub at-parts : {A : Type 0} (xs : List A) (i : ℕ) (x : A) → i < length xs → x ≡ get_or xs i x → xs ≡ take i xs ++ x ∷ drop (i + 1) xs
at-parts xs i x low is = sym (take-append-drop i xs) ∙ ap (λ ys. take i xs ++ ys) (drop_more xs i x low ∙ ap (λ y. y ∷ drop (i + 1) xs) (sym is))

pub take-one : {A : Type 0} (xs : List A) (i : ℕ) (x : A) → i < length xs → x ≡ get_or xs i x → take (i + 1) xs ≡ take i xs ++ x ∷ []
take-one xs i x low is = take_more xs i x low ∙ ap (λ y. take i xs ++ y ∷ []) (sym is)

-- the job of a script at a place may follow those before it
follow-at : (js : List ScriptedJob) (i : ℕ) (j : ScriptedJob) → MayAllFollow limits [] js → i < length js → j ≡ get_or js i j → MayFollow limits (take i js) j
follow-at js i j follow low is = (follow-split limits [] (take i js) j (drop (i + 1) js) (subst (λ (x : List ScriptedJob). MayAllFollow limits [] x) (at-parts js i j low is) follow)).0

-- and those before it are a script's jobs in form
follow-front : (limits : Limits) (done js : List ScriptedJob) (i : ℕ) → MayAllFollow limits done js → MayAllFollow limits done (take i js)
follow-front limits done js zero follow = tt
follow-front limits done [] (suc i) follow = tt
follow-front limits done (j ∷ js) (suc i) follow = (follow.0, follow-front limits (done ++ j ∷ []) js i follow.1)

-- where the jobs before it are opened, it may be opened
pub opened-may_open : (h : List Event) (js : List ScriptedJob) (i : ℕ) (j : ScriptedJob) → h ≡ open_events (take i js) → MayAllFollow limits [] js → i < length js → j ≡ get_or js i j → MayOpen h (key_of_job j) j.ask
opened-may_open h js i j e follow low is = next-may_open h (take i js) j (ap names_of e ∙ opened-names limits [] (take i js) (follow-front limits [] js i follow)) (follow-at js i j follow low is)

-- then one job more is opened
pub opened-more : (h after : List Event) (js : List ScriptedJob) (i : ℕ) (j : ScriptedJob) → h ≡ open_events (take i js) → after ≡ h ++ Open (key_of_job j) j.ask ∷ [] → i < length js → j ≡ get_or js i j → after ≡ open_events (take (i + 1) js)
opened-more h after js i j e step low is =
    step ∙ (ap (λ (x : List Event). x ++ Open (key_of_job j) j.ask ∷ []) e
    ∙ (sym (map-append (λ n. Open (key_of_job n) n.ask) (take i js) (j ∷ [])) ∙ ap open_events (sym (take-one js i j low is))))

pub opened-all : (h : List Event) (js : List ScriptedJob) (i : ℕ) → h ≡ open_events (take i js) → length js ≤ i → h ≡ open_events js
opened-all h js i e all = e ∙ ap open_events (take_all i js all)

-- where all jobs are opened and those before it are posted, it is open without a revision
pub posting-is_open : (h start : List Event) (js : List ScriptedJob) (i : ℕ) (j : ScriptedJob) → start ≡ open_events js → h ≡ start ++ flat_map job_events (take i js) → MayAllFollow limits [] js → i < length js → j ≡ get_or js i j → IsOpen (key_of_job j) [] h
posting-is_open h start js i j opened e follow low is =
    let parts : js ≡ take i js ++ j ∷ drop (i + 1) js = at-parts js i j low is in
    let part : IsPart (take i js) j (drop (i + 1) js) = part-of limits (take i js) j (drop (i + 1) js) (subst (λ (x : List ScriptedJob). MayAllFollow limits [] x) parts follow) in
    let here : h ≡ open_events (take i js ++ j ∷ drop (i + 1) js) ++ flat_map job_events (take i js) = e ∙ ap (λ (x : List Event). x ++ flat_map job_events (take i js)) (opened ∙ ap open_events parts) in
    subst (λ (x : List Event). IsOpen (key_of_job j) [] x) (sym here) (next-is_open (take i js) j (drop (i + 1) js) part)

pub posting-formed : (js : List ScriptedJob) (i : ℕ) (j : ScriptedJob) → MayAllFollow limits [] js → i < length js → j ≡ get_or js i j → IsJob limits j
posting-formed js i j follow low is = (follow-at js i j follow low is).formed

-- then one job more is posted
pub posted-more : (h after start : List Event) (js : List ScriptedJob) (i : ℕ) (j : ScriptedJob) → h ≡ start ++ flat_map job_events (take i js) → after ≡ h ++ job_events j → i < length js → j ≡ get_or js i j → after ≡ start ++ flat_map job_events (take (i + 1) js)
posted-more h after start js i j e step low is =
    step ∙ (ap (λ (x : List Event). x ++ job_events j) e
    ∙ (flat_map_more job_events start (take i js) j ∙ ap (λ (x : List ScriptedJob). start ++ flat_map job_events x) (sym (take-one js i j low is))))

pub posted-all : (h start : List Event) (js : List ScriptedJob) (i : ℕ) → h ≡ start ++ flat_map job_events (take i js) → length js ≤ i → h ≡ start ++ flat_map job_events js
posted-all h start js i e all = e ∙ ap (λ (x : List ScriptedJob). start ++ flat_map job_events x) (take_all i js all)

-- each of a list that passes a test passes it
pub passes-at : {A : Type 0} (p : A → Bool) (xs : List A) (i : ℕ) (x : A) → list_all p xs ≡ true → i < length xs → x ≡ get_or xs i x → p x ≡ true
passes-at p [] i x all low is = absurd (omega arith)
passes-at p (y ∷ ys) zero x all low is = ap p is ∙ (and_parts (p y) (list_all p ys) all).0
passes-at p (y ∷ ys) (suc i) x all low is = passes-at p ys i x (and_parts (p y) (list_all p ys) all).1 (omega arith) is

-- the revisions among steps at one of them: those before it, it, and those after it
pub revision-parts : (ss : List Step) (i : ℕ) (r : Posted) → i < length ss → steps.Revise r ≡ get_or ss i (steps.Revise r) → revisions_in ss ≡ revisions_in (take i ss) ++ r ∷ revisions_in (drop (i + 1) ss)
revision-parts ss i r low is = ap revisions_in (at-parts ss i (steps.Revise r) low is) ∙ flat_map-append revisions_at (take i ss) (steps.Revise r ∷ drop (i + 1) ss)

-- one revision more
pub revision-more : (ss : List Step) (i : ℕ) (r : Posted) → i < length ss → steps.Revise r ≡ get_or ss i (steps.Revise r) → revisions_in (take (i + 1) ss) ≡ revisions_in (take i ss) ++ r ∷ []
revision-more ss i r low is = ap revisions_in (take-one ss i (steps.Revise r) low is) ∙ flat_map-append revisions_at (take i ss) (steps.Revise r ∷ [])

-- a sum over revisions at one of them
sum-parts : (f : Posted → ℕ) (all front : List Posted) (r : Posted) (back : List Posted) → all ≡ front ++ r ∷ back → sum_by f front + f r ≤ sum_by f all
sum-parts f all front r back e =
    let whole : sum_by f all ≡ sum_by f front + sum_by f (r ∷ back) = ap (sum_by f) e ∙ sum_by-append f front (r ∷ back) in
    let first : sum_by f (r ∷ back) ≡ f r + sum_by f back = sum_by-cons f r back in
    omega arith

-- the revision that a job's step at a place posts may be posted where the steps before it are
pub next-may_revise : (j : ScriptedJob) (h : List Event) (i n : ℕ) (r : Posted) → IsJob limits j → IsOpen (key_of_job j) (revisions_in (take i j.steps)) h → i < length j.steps → steps.Revise r ≡ get_or j.steps i (steps.Revise r) → n ≡ length (revisions_in (take i j.steps)) + 1 → MayRevise h (key_of_job j) n r (titled h (key_of_job j))
next-may_revise j h i n r formed opened low is number =
    let rs : List Posted = revisions j in
    let front : List Posted = revisions_in (take i j.steps) in
    let back : List Posted = revisions_in (drop (i + 1) j.steps) in
    let parts : rs ≡ front ++ r ∷ back = revision-parts j.steps i r low is in
    let posted : is_posted r ≡ true = passes-at is_step j.steps i (steps.Revise r) formed.formed low is in
    let count : length rs ≡ length front + length (r ∷ back) = ap length parts ∙ length-append front (r ∷ back) in
    let few : length rs ≤ limits.revisions = formed.few in
    let clause_room : clauses_in front + length r.clauses ≤ clauses_in rs = sum-parts (λ (x : Posted). length x.clauses) rs front r back parts in
    let literal_room : literals_in front + literals_of r.clauses ≤ literals_in rs = sum-parts (λ (x : Posted). literals_of x.clauses) rs front r back parts in
    open-may_revise (key_of_job j) front h n r opened posted number (omega arith) (within _ (clauses_in rs) limits.clauses clause_room formed.clauses) (within _ (literals_in rs) limits.literals literal_room formed.literals)
  where
    within : (a b c : ℕ) → a ≤ b → b ≤ c → a ≤ c
    within a b c p q = omega arith

-- a step that changes what a job asks for says a weight
weight-says : (w : Weighed) → is_weight w ≡ true → IsWeight w
weight-says w h =
    let both = and_parts (is_up_to limits.priority w.priority) (is_up_to limits.demand w.demand) h in
    let priority = and_parts (nat_le 1 w.priority) (nat_le w.priority limits.priority) both.0 in
    let demand = and_parts (nat_le 1 w.demand) (nat_le w.demand limits.demand) both.1 in
    record { some_priority = leb-true 1 w.priority priority.0; priority_bound = leb-true w.priority limits.priority priority.1; some_demand = leb-true 1 w.demand demand.0; demand_bound = leb-true w.demand limits.demand demand.1 }

pub next-weighed : (j : ScriptedJob) (i : ℕ) (w : Weighed) → IsJob limits j → i < length j.steps → steps.Reask w ≡ get_or j.steps i (steps.Reask w) → IsWeight w
next-weighed j i w formed low is = weight-says w (passes-at is_step j.steps i (steps.Reask w) formed.formed low is)

-- then one revision more is posted
pub revised-more : (k : Key) (h after start : List Event) (ss : List Step) (i n : ℕ) (r : Posted) → h ≡ start ++ step_events k 1 (take i ss) → after ≡ h ++ Revise k n r ∷ [] → n ≡ length (revisions_in (take i ss)) + 1 → i < length ss → steps.Revise r ≡ get_or ss i (steps.Revise r) → after ≡ start ++ step_events k 1 (take (i + 1) ss)
revised-more k h after start ss i n r e step number low is =
    let place : n ≡ 1 + length (revisions_in (take i ss)) = omega arith in
    step ∙ (ap (λ (x : List Event). x ++ Revise k n r ∷ []) e
    ∙ (append_assoc start (step_events k 1 (take i ss)) (Revise k n r ∷ [])
    ∙ ap (λ (x : List Event). start ++ x) (ap (λ (m : ℕ). step_events k 1 (take i ss) ++ Revise k m r ∷ []) place
    ∙ (sym (revise-more k 1 (take i ss) r) ∙ ap (step_events k 1) (sym (take-one ss i (steps.Revise r) low is))))))
