-- The keys of a history that is posted by a script, and the jobs that are found under them.
use Rattle.std.proofs.Common.{◌≡◌, ℕ, ◌+◌, Bool, true, false, ◌||◌, cond, List, [], ◌∷◌, ◌++◌, map, flat_map, fold, Some, None, refl, sym, ◌∙◌, ap, append-nil, append_assoc}
use Rattle.std.specs.List.{list_any}
use Rattle.std.proofs.lemmas.List.Sums.{fold-append}
use Rattle.spec_job.specs.SoloMachine.{Own}
use Rattle.spec_job.specs.KeyedJob.{Key}
use Rattle.spec_hall.specs.Events.{Event, Close}
use Rattle.spec_hall.specs.Driven.{Turn, Balances, Exchanges, Slices, events_in}
use Rattle.spec_hall.specs.Own.{adds, is_key}
use Rattle.spec_hall.specs.States.{keys_of, keys_step, states, titled}
use Rattle.spec_hall.specs.Legal.{job_of}
use Rattle.spec_hall.proofs.KeyLemmas.{is_key-same}
use Rattle.spec_hall.proofs.StatesLemmas.{job_of-states}
use Rattle.spec_run.specs.Complete.{key_of_job, job_events, open_events, step_events}
use Rattle.spec_script.specs.Script.{ScriptedJob}
use Rattle.spec_script.specs.declared.step.Step.{Step}
use Rattle.spec_script.specs.declared.step.Step.TheVariants as steps

-- openings open their keys
opened-keys : (js : List ScriptedJob) (keys : List Key) → fold keys_step keys (open_events js) ≡ keys ++ map key_of_job js
opened-keys [] keys = sym (append-nil keys)
opened-keys (j ∷ js) keys = opened-keys js (keys ++ key_of_job j ∷ []) ∙ append_assoc keys (key_of_job j ∷ []) (map key_of_job js)

-- steps and closings open none
stepped-keys : (k : Key) (n : ℕ) (ss : List Step) (keys : List Key) → fold keys_step keys (step_events k n ss) ≡ keys
stepped-keys k n [] keys = refl
stepped-keys k n (steps.Revise r ∷ ss) keys = stepped-keys k (n + 1) ss keys
stepped-keys k n (steps.Reask w ∷ ss) keys = stepped-keys k n ss keys

job-keys : (j : ScriptedJob) (keys : List Key) → fold keys_step keys (job_events j) ≡ keys
job-keys j keys = fold-append keys_step keys (step_events (key_of_job j) 1 j.steps) (Close (key_of_job j) ∷ []) ∙ stepped-keys (key_of_job j) 1 j.steps keys

pub posted-keys : (js : List ScriptedJob) (keys : List Key) → fold keys_step keys (flat_map job_events js) ≡ keys
posted-keys [] keys = refl
posted-keys (j ∷ js) keys =
    fold-append keys_step keys (job_events j) (flat_map job_events js)
    ∙ (ap (λ (x : List Key). fold keys_step x (flat_map job_events js)) (job-keys j keys) ∙ posted-keys js keys)

-- nor do turns
pub turned-keys : (ts : List Turn) (keys : List Key) → fold keys_step keys (flat_map events_in ts) ≡ keys
turned-keys [] keys = refl
turned-keys (Balances shares ∷ ts) keys = turned-keys ts keys
turned-keys (Exchanges k ∷ ts) keys = turned-keys ts keys
turned-keys (Slices k index outcome ∷ ts) keys = turned-keys ts keys

-- a history that begins with the openings of jobs, and in which no other opening stands, has their keys
pub begun-keys : (js : List ScriptedJob) (es : List Event) → ((keys : List Key) → fold keys_step keys es ≡ keys) → keys_of (open_events js ++ es) ≡ map key_of_job js
begun-keys js es none =
    fold-append keys_step [] (open_events js) es
    ∙ (ap (λ (x : List Key). fold keys_step x es) (opened-keys js []) ∙ none (map key_of_job js))

-- a key that is among those of a history is found
pub job-found : (h : List Event) (k : Key) → list_any (is_key k) (keys_of h) ≡ true → job_of k (states h) ≡ Some (titled h k)
job-found h k e = job_of-states h k ∙ ap (λ (b : Bool). cond b (Some (titled h k)) None) e

-- whether a key is among those of jobs
pub among-keys : (k : Key) (js : List ScriptedJob) → list_any (is_key k) (map key_of_job js) ≡ list_any (λ i. is_key k (key_of_job i)) js
among-keys k [] = refl
among-keys k (j ∷ js) = ap (λ (b : Bool). is_key k (key_of_job j) || b) (among-keys k js)

-- a job is among these where it stands between two parts
pub among-parts : (before : List ScriptedJob) (j : ScriptedJob) (after : List ScriptedJob) → list_any (λ i. is_key (key_of_job j) (key_of_job i)) (before ++ j ∷ after) ≡ true
among-parts [] j after = rw (is_key-same (key_of_job j)) refl
among-parts (i ∷ is) j after = by_test (is_key (key_of_job j) (key_of_job i)) (among-parts is j after)
  where
    by_test : (b : Bool) → list_any (λ i. is_key (key_of_job j) (key_of_job i)) (is ++ j ∷ after) ≡ true → (b || list_any (λ i. is_key (key_of_job j) (key_of_job i)) (is ++ j ∷ after)) ≡ true
    by_test true e = refl
    by_test false e = e

-- an event under a job's key joins its own events
pub adds-mine : (k : Key) (os : List Own) (o : Own) → adds (is_key k k) os o ≡ os ++ o ∷ []
adds-mine k os o = ap (λ (b : Bool). adds b os o) (is_key-same k)
