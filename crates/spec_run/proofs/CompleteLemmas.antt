-- A history that begins with all that a script posts, and goes on by turns: it is complete once no job is live.
use Rattle.std.proofs.Common.{◌≡◌, ℕ, ◌+◌, Bool, true, false, ◌&&◌, not, cond, List, [], ◌∷◌, ◌++◌, map, filter, flat_map, fold, refl, sym, ◌∙◌, ap, append-nil, append_assoc}
use Rattle.std.specs.List.{list_all, list_any}
use Rattle.std.proofs.lemmas.Bool.{and_parts, or_parts}
use Rattle.std.proofs.lemmas.List.Sums.{fold-append}
use Rattle.std.proofs.lemmas.List.Elements.{filter-append}
use Rattle.spec_job.specs.SoloMachine.{Own, Opened, Revised, Reasked, Closed, Volume, Started, Finished, Exchanged, SoloMachine, solo, solo_step, is_live}
use Rattle.spec_job.specs.KeyedJob.{Key, KeyedJob}
use Rattle.spec_job.proofs.StepLemmas.{start-keeps, finish-keeps}
use Rattle.spec_hall.specs.Events.{Event, Open, Revise, Reask, Close, Balance, Start, Finish, Exchange, Leave, Arrive, moves}
use Rattle.spec_hall.specs.Driven.{Turn, Balances, Exchanges, Slices, events_in, is_done, GrowsByTurns, IsDriven}
use Rattle.spec_hall.specs.Own.{own, own_step, adds, is_key, is_text, volume_in}
use Rattle.spec_hall.specs.States.{keys_of, keys_step, states, titled, lives, live_of, live_ones, leases}
use Rattle.spec_hall.proofs.PushLemmas.{solo-push}
use Rattle.spec_hall.proofs.VolumeLemmas.{revise-keeps}
use Rattle.spec_run.specs.Complete.{IsComplete, is_post_of, key_of_job, job_events, open_events, step_events, jobs_of_tenant, posts_of, script_events}
use Rattle.spec_run.proofs.KeyLemmas.{adds-mine, begun-keys, posted-keys, turned-keys}
use Rattle.spec_run.proofs.StayLemmas.{jobs-stay, turns-stay, grown-stays}
use Rattle.spec_script.specs.Script.{ScriptedJob, Scripted}
use Rattle.spec_script.specs.declared.step.Step.{Step}
use Rattle.spec_script.specs.declared.step.Step.TheVariants as steps

-- a job that is closed stays closed where none moves
step-closed : (s : SoloMachine) (o : Own) → s.closed ≡ true → (solo_step s o).closed ≡ true
step-closed s (Opened ask) e = e
step-closed s (Revised r) e = (revise-keeps s r).closed ∙ e
step-closed s (Reasked w) e = e
step-closed s Closed e = refl
step-closed s (Volume v) e = e
step-closed s (Started i) e = (start-keeps s i).closed ∙ e
step-closed s (Finished i o) e = (finish-keeps s i o).closed ∙ e
step-closed s Exchanged e = e

push-closed : (os : List Own) (o : Own) → (solo os).closed ≡ true → (solo (os ++ o ∷ [])).closed ≡ true
push-closed os o e = ap (λ (s : SoloMachine). s.closed) (solo-push os o) ∙ step-closed (solo os) o e

adds-closed : (mine : Bool) (os : List Own) (o : Own) → (solo os).closed ≡ true → (solo (adds mine os o)).closed ≡ true
adds-closed true os o e = push-closed os o e
adds-closed false os o e = e

volume-closed : (same : Bool) (os : List Own) (v : ℕ) → (solo os).closed ≡ true → (solo (cond same os (os ++ Volume v ∷ []))).closed ≡ true
volume-closed true os v e = e
volume-closed false os v e = push-closed os (Volume v) e

event-closed : (k : Key) (os : List Own) (e : Event) → moves e ≡ false → (solo os).closed ≡ true → (solo (own_step k os e)).closed ≡ true
event-closed k os (Open i ask) stay h = adds-closed (is_key k i) os (Opened ask) h
event-closed k os (Revise i n r) stay h = adds-closed (is_key k i) os (Revised r) h
event-closed k os (Reask i w) stay h = adds-closed (is_key k i) os (Reasked w) h
event-closed k os (Close i) stay h = adds-closed (is_key k i) os Closed h
event-closed k os (Balance shares) stay h = volume-closed _ os (volume_in k shares) h
event-closed k os (Start i index worker) stay h = adds-closed (is_key k i) os (Started index) h
event-closed k os (Finish i index worker outcome) stay h = adds-closed (is_key k i) os (Finished index outcome) h
event-closed k os (Exchange i) stay h = adds-closed (is_key k i) os Exchanged h
event-closed k os (Leave i) stay h = absurd (cc)
event-closed k os (Arrive i brought) stay h = absurd (cc)

events-closed : (k : Key) (es : List Event) (os : List Own) → list_any moves es ≡ false → (solo os).closed ≡ true → (solo (fold (own_step k) os es)).closed ≡ true
events-closed k [] os stay h = h
events-closed k (e ∷ es) os stay h = let parts = or_parts (moves e) (list_any moves es) stay in events-closed k es (own_step k os e) parts.1 (event-closed k os e parts.0 h)

-- a closing closes the job
closing-closed : (k : Key) (os : List Own) → (solo (own_step k os (Close k))).closed ≡ true
closing-closed k os = ap (λ (x : List Own). (solo x).closed) (adds-mine k os Closed) ∙ ap (λ (s : SoloMachine). s.closed) (solo-push os Closed)

-- after all postings of a job it is closed
posted-closed : (j : ScriptedJob) (os : List Own) → (solo (fold (own_step (key_of_job j)) os (job_events j))).closed ≡ true
posted-closed j os =
    ap (λ (x : List Own). (solo x).closed) (fold-append (own_step (key_of_job j)) os (step_events (key_of_job j) 1 j.steps) (Close (key_of_job j) ∷ []))
    ∙ closing-closed (key_of_job j) (fold (own_step (key_of_job j)) os (step_events (key_of_job j) 1 j.steps))

-- so are all jobs that are posted, whatever follows but a move
own-parts : (k : Key) (past es : List Event) → own k (past ++ es) ≡ fold (own_step k) (own k past) es
own-parts k past es = fold-append (own_step k) [] past es

pub all-closed : (js : List ScriptedJob) (past later : List Event) (h : List Event) → h ≡ (past ++ flat_map job_events js) ++ later → list_any moves later ≡ false → list_all (λ t. t.state.closed) (map (titled h) (map key_of_job js)) ≡ true
all-closed [] past later h e stay = refl
all-closed (j ∷ js) past later h e stay = both (titled h (key_of_job j)).state.closed (list_all (λ t. t.state.closed) (map (titled h) (map key_of_job js))) first (all-closed js (past ++ job_events j) later h rest stay)
  where
    both : (a b : Bool) → a ≡ true → b ≡ true → (a && b) ≡ true
    both a b p q = rw (p, q) refl

    rest : h ≡ ((past ++ job_events j) ++ flat_map job_events js) ++ later
    rest = e ∙ ap (λ (x : List Event). x ++ later) (sym (append_assoc past (job_events j) (flat_map job_events js)))

    whole : own (key_of_job j) h ≡ fold (own_step (key_of_job j)) (fold (own_step (key_of_job j)) (fold (own_step (key_of_job j)) (own (key_of_job j) past) (job_events j)) (flat_map job_events js)) later
    whole =
        ap (own (key_of_job j)) rest
        ∙ (own-parts (key_of_job j) ((past ++ job_events j) ++ flat_map job_events js) later
        ∙ ap (λ (x : List Own). fold (own_step (key_of_job j)) x later) (own-parts (key_of_job j) (past ++ job_events j) (flat_map job_events js)
        ∙ ap (λ (x : List Own). fold (own_step (key_of_job j)) x (flat_map job_events js)) (own-parts (key_of_job j) past (job_events j))))

    first : (solo (own (key_of_job j) h)).closed ≡ true
    first =
        ap (λ (x : List Own). (solo x).closed) whole
        ∙ events-closed (key_of_job j) later (fold (own_step (key_of_job j)) (fold (own_step (key_of_job j)) (own (key_of_job j) past) (job_events j)) (flat_map job_events js)) stay (events-closed (key_of_job j) (flat_map job_events js) (fold (own_step (key_of_job j)) (own (key_of_job j) past) (job_events j)) (jobs-stay js) (posted-closed j (own (key_of_job j) past)))

-- where every job is closed and none is live, nothing is left to do
pub closed-done : (ts : List KeyedJob) → list_all (λ t. t.state.closed) ts ≡ true → lives ts ≡ [] → is_done ts ≡ true
closed-done [] closed none = refl
closed-done (t ∷ ts) closed none = by_test (is_live t.state) (closed-done ts parts.1) none
  where
    parts : (t.state.closed ≡ true) × (list_all (λ (u : KeyedJob). u.state.closed) ts ≡ true)
    parts = and_parts t.state.closed (list_all (λ (u : KeyedJob). u.state.closed) ts) closed

    by_test : (b : Bool) → (lives ts ≡ [] → is_done ts ≡ true) → map live_of (cond b (t ∷ live_ones ts) (live_ones ts)) ≡ [] → ((t.state.closed && not b) && is_done ts) ≡ true
    by_test true rest e = absurd (cc)
    by_test false rest e = rw (parts.0, rest e) refl

-- what a tenant posts of openings, of steps and of all of a job
opened-posts : (tenant : List ℕ) (js : List ScriptedJob) → filter (is_post_of tenant) (open_events js) ≡ open_events (filter (λ j. is_text tenant j.tenant) js)
opened-posts tenant [] = refl
opened-posts tenant (j ∷ js) = by_test (is_text tenant j.tenant) (opened-posts tenant js)
  where
    by_test : (b : Bool) → filter (is_post_of tenant) (open_events js) ≡ open_events (filter (λ i. is_text tenant i.tenant) js) → cond b (Open (key_of_job j) j.ask ∷ filter (is_post_of tenant) (open_events js)) (filter (is_post_of tenant) (open_events js)) ≡ open_events (cond b (j ∷ filter (λ i. is_text tenant i.tenant) js) (filter (λ i. is_text tenant i.tenant) js))
    by_test true e = ap (λ (x : List Event). Open (key_of_job j) j.ask ∷ x) e
    by_test false e = e

stepped-posts : (tenant : List ℕ) (k : Key) (n : ℕ) (ss : List Step) → filter (is_post_of tenant) (step_events k n ss) ≡ cond (is_text tenant k.tenant) (step_events k n ss) []
stepped-posts tenant k n [] = by_test (is_text tenant k.tenant)
  where
    by_test : (b : Bool) → ◌≡◌ {A = List Event} [] (cond b [] [])
    by_test true = refl
    by_test false = refl
stepped-posts tenant k n (steps.Revise r ∷ ss) = by_test (is_text tenant k.tenant) (stepped-posts tenant k (n + 1) ss)
  where
    by_test : (b : Bool) → filter (is_post_of tenant) (step_events k (n + 1) ss) ≡ cond b (step_events k (n + 1) ss) [] → cond b (Revise k n r ∷ filter (is_post_of tenant) (step_events k (n + 1) ss)) (filter (is_post_of tenant) (step_events k (n + 1) ss)) ≡ cond b (Revise k n r ∷ step_events k (n + 1) ss) []
    by_test true e = ap (λ (x : List Event). Revise k n r ∷ x) e
    by_test false e = e
stepped-posts tenant k n (steps.Reask w ∷ ss) = by_test (is_text tenant k.tenant) (stepped-posts tenant k n ss)
  where
    by_test : (b : Bool) → filter (is_post_of tenant) (step_events k n ss) ≡ cond b (step_events k n ss) [] → cond b (Reask k w ∷ filter (is_post_of tenant) (step_events k n ss)) (filter (is_post_of tenant) (step_events k n ss)) ≡ cond b (Reask k w ∷ step_events k n ss) []
    by_test true e = ap (λ (x : List Event). Reask k w ∷ x) e
    by_test false e = e

job-posts : (tenant : List ℕ) (j : ScriptedJob) → filter (is_post_of tenant) (job_events j) ≡ cond (is_text tenant j.tenant) (job_events j) []
job-posts tenant j =
    filter-append (is_post_of tenant) (step_events (key_of_job j) 1 j.steps) (Close (key_of_job j) ∷ [])
    ∙ (ap (λ (x : List Event). x ++ filter (is_post_of tenant) (Close (key_of_job j) ∷ [])) (stepped-posts tenant (key_of_job j) 1 j.steps)
    ∙ by_test (is_text tenant j.tenant))
  where
    by_test : (b : Bool) → cond b (step_events (key_of_job j) 1 j.steps) [] ++ cond b (Close (key_of_job j) ∷ []) [] ≡ cond b (job_events j) []
    by_test true = refl
    by_test false = refl

posted-posts : (tenant : List ℕ) (js : List ScriptedJob) → filter (is_post_of tenant) (flat_map job_events js) ≡ flat_map job_events (filter (λ j. is_text tenant j.tenant) js)
posted-posts tenant [] = refl
posted-posts tenant (j ∷ js) =
    filter-append (is_post_of tenant) (job_events j) (flat_map job_events js)
    ∙ (ap (λ (x : List Event). x ++ filter (is_post_of tenant) (flat_map job_events js)) (job-posts tenant j) ∙ by_test (is_text tenant j.tenant) (posted-posts tenant js))
  where
    by_test : (b : Bool) → filter (is_post_of tenant) (flat_map job_events js) ≡ flat_map job_events (filter (λ i. is_text tenant i.tenant) js) → cond b (job_events j) [] ++ filter (is_post_of tenant) (flat_map job_events js) ≡ flat_map job_events (cond b (j ∷ filter (λ i. is_text tenant i.tenant) js) (filter (λ i. is_text tenant i.tenant) js))
    by_test true e = ap (λ (x : List Event). job_events j ++ x) e
    by_test false e = e

-- of a turn no tenant posts anything
turned-posts : (tenant : List ℕ) (ts : List Turn) → filter (is_post_of tenant) (flat_map events_in ts) ≡ []
turned-posts tenant [] = refl
turned-posts tenant (Balances shares ∷ ts) = turned-posts tenant ts
turned-posts tenant (Exchanges k ∷ ts) = turned-posts tenant ts
turned-posts tenant (Slices k index outcome ∷ ts) = turned-posts tenant ts

-- what a tenant posts of all that a script posts
pub script-posts : (tenant : List ℕ) (s : Scripted) → filter (is_post_of tenant) (script_events s) ≡ posts_of tenant s
script-posts tenant s =
    filter-append (is_post_of tenant) (open_events s.jobs) (flat_map job_events s.jobs)
    ∙ (ap (λ (x : List Event). x ++ filter (is_post_of tenant) (flat_map job_events s.jobs)) (opened-posts tenant s.jobs)
    ∙ ap (λ (x : List Event). open_events (jobs_of_tenant tenant s) ++ x) (posted-posts tenant s.jobs))

-- turns change no postings
grown-posts : (workers : ℕ) (tenant : List ℕ) (past h : List Event) → GrowsByTurns workers past h → filter (is_post_of tenant) h ≡ filter (is_post_of tenant) past
grown-posts workers tenant past h grows =
    ap (filter (is_post_of tenant)) grows.grown
    ∙ (filter-append (is_post_of tenant) past (flat_map events_in grows.turns)
    ∙ (ap (λ (x : List Event). filter (is_post_of tenant) past ++ x) (turned-posts tenant grows.turns) ∙ append-nil (filter (is_post_of tenant) past)))

-- the keys of a script's jobs are those of the history
pub grown-keys : (workers : ℕ) (s : Scripted) (h : List Event) → GrowsByTurns workers (script_events s) h → keys_of h ≡ map key_of_job s.jobs
grown-keys workers s h grows =
    ap keys_of grows.grown
    ∙ (fold-append keys_step [] (script_events s) (flat_map events_in grows.turns)
    ∙ (turned-keys grows.turns (keys_of (script_events s)) ∙ begun-keys s.jobs (flat_map job_events s.jobs) (posted-keys s.jobs)))

-- a history that grew by turns from a script's postings, with no job live, is driven
pub grown-driven : (workers : ℕ) (s : Scripted) (h : List Event) → GrowsByTurns workers (script_events s) h → lives (states h) ≡ [] → IsDriven workers (script_events s) h
grown-driven workers s h grows none = record {
  turned = grows;
  done = closed-done (states h) (ap (λ (ks : List Key). list_all (λ t. t.state.closed) (map (titled h) ks)) (grown-keys workers s h grows) ∙ all-closed s.jobs (open_events s.jobs) (flat_map events_in grows.turns) h grows.grown (turns-stay grows.turns)) none;
}

-- and with nothing out it is complete
pub grown-complete : (workers : ℕ) (s : Scripted) (h : List Event) → GrowsByTurns workers (script_events s) h → lives (states h) ≡ [] → leases h ≡ [] → IsComplete s h
grown-complete workers s h grows none home = record {
  posts = λ tenant. grown-posts workers tenant (script_events s) h grows ∙ script-posts tenant s;
  answered = none;
  home = home;
  stay = grown-stays workers s h grows;
}
