-- What a job posts: its own events by the script, in a hall and in each hall of a cluster.
use Rattle.std.proofs.Common.{◌≡◌, ℕ, zero, suc, ◌+◌, Bool, true, false, cond, ◌&&◌, ◌||◌, List, [], ◌∷◌, ◌++◌, filter, fold, map, flat_map, refl, sym, ◌∙◌, ap, subst, append_assoc, append-nil}
use Rattle.std.specs.List.{list_all, list_any}
use Rattle.std.proofs.lemmas.Bool.{and_parts, both_ways, or_parts}
use Rattle.std.proofs.lemmas.List.Elements.{filter-append}
use Rattle.std.proofs.lemmas.List.Sums.{fold-append}
use Rattle.spec_job.specs.KeyedJob.{Key}
use Rattle.spec_job.specs.SoloMachine.{Own, Opened, Revised, Reasked, Closed, Volume, Started, Finished, Exchanged}
use Rattle.spec_hall.specs.Events.{Event, Open, Revise, Reask, Close, Balance, Start, Finish, Exchange, Leave, Arrive, moves}
use Rattle.spec_hall.specs.Own.{adds, adds_volume, brought_by, is_key, is_text, own, own_step, volume_in}
use Rattle.spec_hall.proofs.KeyLemmas.{is_key-Decides}
use Rattle.spec_hall.proofs.PushLemmas.{adds_volume-keeps, own-push}
use Rattle.spec_run.specs.Complete.{is_post_of, job_events, jobs_of_tenant, key_of_job, open_events, posts_of, step_events}
use Rattle.spec_script.specs.Script.{ScriptedJob, Scripted}
use Rattle.spec_script.specs.declared.step.Step.{Step}
use Rattle.spec_script.specs.declared.step.Step.TheVariants as steps
use Rattle.spec_cluster.specs.Clusters.{Cluster, is_named}
use Rattle.spec_cluster.specs.Calls.{went}
use Rattle.spec_cluster.specs.Rounds.{AllTurn, may_come, next_hall}
use Rattle.spec_cluster.specs.Visits.{hall_at}
use Rattle.spec_cluster.proofs.NameLemmas.{named-append, or-none}
use Rattle.spec_cluster.proofs.PostedLemmas.{of_key}
use Rattle.spec_cluster.proofs.ThereLemmas.{GrewQuietly, RoundsLeave, is_quiet, quiet-named, turn-quiet, went-each}

-- whether an own event was posted
abbrev pub is_said : Own → Bool
is_said (Opened ask) = true
is_said (Revised r) = true
is_said (Reasked w) = true
is_said Closed = true
is_said event = false

-- what was posted among own events
abbrev pub said : List Own → List Own
said os = filter is_said os

-- one more that was posted, or not
said-more : (os : List Own) (o : Own) → is_said o ≡ true → said (os ++ o ∷ []) ≡ said os ++ o ∷ []
said-more os o q = filter-append is_said os (o ∷ []) ∙ ap (λ (b : Bool). said os ++ cond b (o ∷ []) []) q

said-same : (os : List Own) (o : Own) → is_said o ≡ false → said (os ++ o ∷ []) ≡ said os
said-same os o q = filter-append is_said os (o ∷ []) ∙ (ap (λ (b : Bool). said os ++ cond b (o ∷ []) []) q ∙ append-nil (said os))

adds-same : (mine : Bool) (os : List Own) (o : Own) → is_said o ≡ false → said (adds mine os o) ≡ said os
adds-same true os o q = said-same os o q
adds-same false os o q = refl

volume-same : (v : ℕ) (os : List Own) → said (adds_volume v os) ≡ said os
volume-same v os = adds_volume-keeps (λ xs. said xs ≡ said os) v os refl (said-same os (Volume v) refl)

-- an event of a turn posts nothing
quiet-same : (k : Key) (os : List Own) (e : Event) → is_quiet e ≡ true → said (own_step k os e) ≡ said os
quiet-same k os (Open j ask) q = absurd (both_ways false refl q)
quiet-same k os (Revise j number r) q = absurd (both_ways false refl q)
quiet-same k os (Reask j weight) q = absurd (both_ways false refl q)
quiet-same k os (Close j) q = absurd (both_ways false refl q)
quiet-same k os (Balance shares) q = volume-same (volume_in k shares) os
quiet-same k os (Start j index worker) q = adds-same (is_key k j) os (Started index) refl
quiet-same k os (Finish j index worker outcome) q = adds-same (is_key k j) os (Finished index outcome) refl
quiet-same k os (Exchange j) q = adds-same (is_key k j) os Exchanged refl
quiet-same k os (Leave j) q = absurd (both_ways false refl q)
quiet-same k os (Arrive j brought) q = absurd (both_ways false refl q)

quiet-said : (k : Key) (os : List Own) (es : List Event) → list_all is_quiet es ≡ true → said (fold (own_step k) os es) ≡ said os
quiet-said k os [] all = refl
quiet-said k os (e ∷ es) all =
    let parts = and_parts (is_quiet e) (list_all is_quiet es) all in
    quiet-said k (own_step k os e) es parts.1 ∙ quiet-same k os e parts.0

pub grown-said : (k : Key) (past now : List Event) → GrewQuietly past now → said (own k now) ≡ said (own k past)
grown-said k past now grew = ap (λ (h : List Event). said (own k h)) grew.grown ∙ (ap said (fold-append (own_step k) [] past grew.events) ∙ quiet-said k (own k past) grew.events grew.quiet)

-- an event that a tenant posts says as much of its job among all events as among those that the tenant posts
post-one : (k j : Key) (e : Event) (o : Own) (os : List Own) → is_said o ≡ true → ((xs : List Own) → own_step k xs e ≡ adds (is_key k j) xs o) → said (own_step k os e) ≡ fold (own_step k) (said os) (cond (is_text k.tenant j.tenant) (e ∷ []) [])
post-one k j e o os is owns = by_key (is_key k j) refl (is_text k.tenant j.tenant) refl
  where
    by_key : (b : Bool) → is_key k j ≡ b → (t : Bool) → is_text k.tenant j.tenant ≡ t → said (own_step k os e) ≡ fold (own_step k) (said os) (cond t (e ∷ []) [])
    by_key true q true p = ap said (owns os ∙ ap (λ (x : Bool). adds x os o) q) ∙ (said-more os o is ∙ sym (owns (said os) ∙ ap (λ (x : Bool). adds x (said os) o) q))
    by_key true q false p = absurd (both_ways (is_text k.tenant j.tenant) p (and_parts (is_text k.tenant j.tenant) (is_text k.job j.job) q).0)
    by_key false q true p = ap said (owns os ∙ ap (λ (x : Bool). adds x os o) q) ∙ sym (owns (said os) ∙ ap (λ (x : Bool). adds x (said os) o) q)
    by_key false q false p = ap said (owns os ∙ ap (λ (x : Bool). adds x os o) q)

post-event : (k : Key) (os : List Own) (e : Event) → moves e ≡ false → said (own_step k os e) ≡ fold (own_step k) (said os) (filter (is_post_of k.tenant) (e ∷ []))
post-event k os (Open j ask) still = post-one k j (Open j ask) (Opened ask) os refl (λ xs. refl)
post-event k os (Revise j number r) still = post-one k j (Revise j number r) (Revised r) os refl (λ xs. refl)
post-event k os (Reask j weight) still = post-one k j (Reask j weight) (Reasked weight) os refl (λ xs. refl)
post-event k os (Close j) still = post-one k j (Close j) Closed os refl (λ xs. refl)
post-event k os (Balance shares) still = quiet-same k os (Balance shares) refl
post-event k os (Start j index worker) still = quiet-same k os (Start j index worker) refl
post-event k os (Finish j index worker outcome) still = quiet-same k os (Finish j index worker outcome) refl
post-event k os (Exchange j) still = quiet-same k os (Exchange j) refl
post-event k os (Leave j) still = absurd (both_ways true still refl)
post-event k os (Arrive j brought) still = absurd (both_ways true still refl)

posts-said : (k : Key) (os : List Own) (es : List Event) → list_any moves es ≡ false → said (fold (own_step k) os es) ≡ fold (own_step k) (said os) (filter (is_post_of k.tenant) es)
posts-said k os [] still = refl
posts-said k os (e ∷ es) still =
    let parts = or_parts (moves e) (list_any moves es) still in
    posts-said k (own_step k os e) es parts.1
    ∙ (ap (λ (xs : List Own). fold (own_step k) xs (filter (is_post_of k.tenant) es)) (post-event k os e parts.0)
    ∙ (sym (fold-append (own_step k) (said os) (filter (is_post_of k.tenant) (e ∷ [])) (filter (is_post_of k.tenant) es))
    ∙ ap (fold (own_step k) (said os)) (sym (filter-append (is_post_of k.tenant) (e ∷ []) es))))

-- the own events that a step and a job post
abbrev pub own_of : Step → Own
own_of (steps.Revise r) = Revised r
own_of (steps.Reask w) = Reasked w

abbrev pub steps_of : ScriptedJob → List Own
steps_of j = map own_of j.steps ++ Closed ∷ []

abbrev pub says : ScriptedJob → List Own
says j = Opened j.ask ∷ steps_of j

-- what the steps of a job post of a key, the job, all jobs and all openings
stepped-own : (k i : Key) (b : Bool) → is_key k i ≡ b → (n : ℕ) (ss : List Step) (os : List Own) → fold (own_step k) os (step_events i n ss) ≡ cond b (os ++ map own_of ss) os
stepped-own k i true q n [] os = sym (append-nil os)
stepped-own k i false q n [] os = refl
stepped-own k i true q n (steps.Revise r ∷ ss) os =
    ap (λ (x : Bool). fold (own_step k) (adds x os (Revised r)) (step_events i (n + 1) ss)) q ∙ (stepped-own k i true q (n + 1) ss (os ++ Revised r ∷ []) ∙ append_assoc os (Revised r ∷ []) (map own_of ss))
stepped-own k i false q n (steps.Revise r ∷ ss) os = ap (λ (x : Bool). fold (own_step k) (adds x os (Revised r)) (step_events i (n + 1) ss)) q ∙ stepped-own k i false q (n + 1) ss os
stepped-own k i true q n (steps.Reask w ∷ ss) os =
    ap (λ (x : Bool). fold (own_step k) (adds x os (Reasked w)) (step_events i n ss)) q ∙ (stepped-own k i true q n ss (os ++ Reasked w ∷ []) ∙ append_assoc os (Reasked w ∷ []) (map own_of ss))
stepped-own k i false q n (steps.Reask w ∷ ss) os = ap (λ (x : Bool). fold (own_step k) (adds x os (Reasked w)) (step_events i n ss)) q ∙ stepped-own k i false q n ss os

job-own : (k : Key) (j : ScriptedJob) (b : Bool) → is_key k (key_of_job j) ≡ b → (os : List Own) → fold (own_step k) os (job_events j) ≡ cond b (os ++ steps_of j) os
job-own k j true q os =
    fold-append (own_step k) os (step_events (key_of_job j) 1 j.steps) (Close (key_of_job j) ∷ [])
    ∙ (ap (λ (xs : List Own). own_step k xs (Close (key_of_job j))) (stepped-own k (key_of_job j) true q 1 j.steps os)
    ∙ (ap (λ (x : Bool). adds x (os ++ map own_of j.steps) Closed) q ∙ append_assoc os (map own_of j.steps) (Closed ∷ [])))
job-own k j false q os =
    fold-append (own_step k) os (step_events (key_of_job j) 1 j.steps) (Close (key_of_job j) ∷ [])
    ∙ (ap (λ (xs : List Own). own_step k xs (Close (key_of_job j))) (stepped-own k (key_of_job j) false q 1 j.steps os) ∙ ap (λ (x : Bool). adds x os Closed) q)

jobs-own : (k : Key) (js : List ScriptedJob) (os : List Own) → fold (own_step k) os (flat_map job_events js) ≡ os ++ flat_map steps_of (of_key k js)
jobs-own k [] os = sym (append-nil os)
jobs-own k (j ∷ js) os = fold-append (own_step k) os (job_events j) (flat_map job_events js) ∙ by_key (is_key k (key_of_job j)) refl (λ xs. jobs-own k js xs)
  where
    by_key : (b : Bool) → is_key k (key_of_job j) ≡ b → ((xs : List Own) → fold (own_step k) xs (flat_map job_events js) ≡ xs ++ flat_map steps_of (of_key k js)) → fold (own_step k) (fold (own_step k) os (job_events j)) (flat_map job_events js) ≡ os ++ flat_map steps_of (cond b (j ∷ of_key k js) (of_key k js))
    by_key true q rest = ap (λ (xs : List Own). fold (own_step k) xs (flat_map job_events js)) (job-own k j true q os) ∙ (rest (os ++ steps_of j) ∙ append_assoc os (steps_of j) (flat_map steps_of (of_key k js)))
    by_key false q rest = ap (λ (xs : List Own). fold (own_step k) xs (flat_map job_events js)) (job-own k j false q os) ∙ rest os

opens-own : (k : Key) (js : List ScriptedJob) (os : List Own) → fold (own_step k) os (open_events js) ≡ os ++ map (λ i. Opened i.ask) (of_key k js)
opens-own k [] os = sym (append-nil os)
opens-own k (j ∷ js) os = by_key (is_key k (key_of_job j)) refl (λ xs. opens-own k js xs)
  where
    by_key : (b : Bool) → is_key k (key_of_job j) ≡ b → ((xs : List Own) → fold (own_step k) xs (open_events js) ≡ xs ++ map (λ (i : ScriptedJob). Opened i.ask) (of_key k js)) → fold (own_step k) (own_step k os (Open (key_of_job j) j.ask)) (open_events js) ≡ os ++ map (λ (i : ScriptedJob). Opened i.ask) (cond b (j ∷ of_key k js) (of_key k js))
    by_key true q rest = ap (λ (x : Bool). fold (own_step k) (adds x os (Opened j.ask)) (open_events js)) q ∙ (rest (os ++ Opened j.ask ∷ []) ∙ append_assoc os (Opened j.ask ∷ []) (map (λ (i : ScriptedJob). Opened i.ask) (of_key k js)))
    by_key false q rest = ap (λ (x : Bool). fold (own_step k) (adds x os (Opened j.ask)) (open_events js)) q ∙ rest os

-- so what jobs post of a key of which there is one among them is what that one says
pub script-own : (k : Key) (js : List ScriptedJob) (j : ScriptedJob) → of_key k js ≡ j ∷ [] → own k (open_events js ++ flat_map job_events js) ≡ says j
script-own k js j one =
    fold-append (own_step k) [] (open_events js) (flat_map job_events js)
    ∙ (ap (λ (xs : List Own). fold (own_step k) xs (flat_map job_events js)) (opens-own k js [])
    ∙ (jobs-own k js (map (λ (i : ScriptedJob). Opened i.ask) (of_key k js))
    ∙ (ap (λ (is : List ScriptedJob). map (λ (i : ScriptedJob). Opened i.ask) is ++ flat_map steps_of is) one
    ∙ ap (λ (xs : List Own). Opened j.ask ∷ xs) (append-nil (steps_of j)))))

-- what one says was posted
steps-said : (ss : List Step) → said (map own_of ss) ≡ map own_of ss
steps-said [] = refl
steps-said (steps.Revise r ∷ ss) = ap (λ (xs : List Own). Revised r ∷ xs) (steps-said ss)
steps-said (steps.Reask w ∷ ss) = ap (λ (xs : List Own). Reasked w ∷ xs) (steps-said ss)

pub says-said : (j : ScriptedJob) → said (says j) ≡ says j
says-said j = ap (λ (xs : List Own). Opened j.ask ∷ xs) (filter-append is_said (map own_of j.steps) (Closed ∷ []) ∙ ap (λ (xs : List Own). xs ++ Closed ∷ []) (steps-said j.steps))

-- the jobs of a key are of its tenant
tenant-of_key : (k : Key) (js : List ScriptedJob) → of_key k (filter (λ j. is_text k.tenant j.tenant) js) ≡ of_key k js
tenant-of_key k [] = refl
tenant-of_key k (x ∷ xs) = by_test (is_text k.tenant x.tenant) refl (tenant-of_key k xs)
  where
    by_test : (t : Bool) → is_text k.tenant x.tenant ≡ t → of_key k (filter (λ j. is_text k.tenant j.tenant) xs) ≡ of_key k xs → of_key k (cond t (x ∷ filter (λ j. is_text k.tenant j.tenant) xs) (filter (λ j. is_text k.tenant j.tenant) xs)) ≡ of_key k (x ∷ xs)
    by_test true p rest = ap (λ (js : List ScriptedJob). cond (is_key k (key_of_job x)) (x ∷ js) js) rest
    by_test false p rest = rest ∙ sym (ap (λ (b : Bool). cond (b && is_text k.job x.name) (x ∷ of_key k xs) (of_key k xs)) p)

-- so a history that is complete for a script says of each of its jobs what the job says
pub complete-said : (s : Scripted) (h : List Event) (k : Key) (j : ScriptedJob) → list_any moves h ≡ false → filter (is_post_of k.tenant) h ≡ posts_of k.tenant s → of_key k s.jobs ≡ j ∷ [] → said (own k h) ≡ says j
complete-said s h k j still posts one =
    posts-said k [] h still
    ∙ (ap (own k) posts ∙ script-own k (jobs_of_tenant k.tenant s) j (tenant-of_key k s.jobs ∙ one))

-- each hall to which a job came says of it what the job says
module _ (k : Key) (want : List Own) where
  abbrev pub Says : List Event → Type 0
  Says h = is_named k h ≡ true → said (own k h) ≡ want

  abbrev pub AllSay : Cluster → Type 0
  AllSay c = (n : ℕ) → Says (hall_at c.halls n)

  turns-say : (w n : ℕ) (pasts nows : List (List Event)) → AllTurn w n pasts nows → ((m : ℕ) → Says (hall_at pasts m)) → (m : ℕ) → Says (hall_at nows m)
  turns-say w n [] [] turns say m named = say m named
  turns-say w n [] (now ∷ nows) turns say m named = absurd turns
  turns-say w n (past ∷ pasts) [] turns say m named = absurd turns
  turns-say w n (past ∷ pasts) (now ∷ nows) turns say zero named =
      let grew = turn-quiet w n past now turns.0 in
      grown-said k past now grew ∙ say 0 (sym (quiet-named k past now grew) ∙ named)
  turns-say w n (past ∷ pasts) (now ∷ nows) turns say (suc m) named = turns-say w n pasts nows turns.1 (λ i. say (suc i)) m named

  leave-says : (h : List Event) (i : Key) → Says h → Says (h ++ Leave i ∷ [])
  leave-says h i say named = ap said (own-push k h (Leave i)) ∙ (by_key (is_key k i) ∙ say (or-none (is_named k h) ∙ (sym (named-append k h (Leave i ∷ [])) ∙ named)))
    where
      by_key : (b : Bool) → said (cond b (adds_volume 0 (own k h)) (own k h)) ≡ said (own k h)
      by_key true = volume-same 0 (own k h)
      by_key false = refl

  arrive-says : (from to : List Event) (i : Key) → is_named i from ≡ true → Says from → Says to → Says (to ++ Arrive i (brought_by i from) ∷ [])
  arrive-says from to i came here there named = ap said (own-push k to (Arrive i (brought_by i from))) ∙ by_key (is_key k i) refl
    where
      by_key : (b : Bool) → is_key k i ≡ b → said (cond b (brought_by i from) (own k to)) ≡ want
      by_key true q =
          let same : k ≡ i = (is_key-Decides k i).0 q in
          ap (λ (x : Key). said (brought_by x from)) (sym same) ∙ (volume-same 0 (own k from) ∙ here (subst (λ (x : Key). is_named x from ≡ true) (sym same) came))
      by_key false q = there (only (is_named k to) (ap (λ (b : Bool). is_named k to || (b || false)) (sym q) ∙ (sym (named-append k to (Arrive i (brought_by i from) ∷ [])) ∙ named)))
        where
          only : (b : Bool) → (b || false) ≡ true → b ≡ true
          only b e = or-none b ∙ e

  pub all-say : RoundsLeave AllSay
  all-say = record {
    turns = λ every c mids turns say. turns-say c.workers every c.halls mids turns say;
    goes_on = λ c i from named say. by_goes c i from named say (may_come i (hall_at c.halls (next_hall from c)));
  }
    where
      by_goes : (c : Cluster) (i : Key) (from : ℕ) → is_named i (hall_at c.halls from) ≡ true → AllSay c → (b : Bool) → AllSay (cond b (went i from (next_hall from c) c) c)
      by_goes c i from named say true = went-each (λ m h. Says h) c i from (next_hall from c) say (leave-says (hall_at c.halls from) i (say from)) (arrive-says (hall_at c.halls from) (hall_at c.halls (next_hall from c)) i named (say from) (say (next_hall from c)))
      by_goes c i from named say false = say
