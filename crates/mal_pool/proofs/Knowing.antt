-- The jobs that a history opens are known to it.
use Rattle.std.proofs.Common.{◌≡◌, Bool, true, false, ◌||◌, cond, List, [], ◌∷◌, ◌++◌, flat_map, filter, fold, refl, sym, ◌∙◌, ap, append_assoc}
use Rattle.std.specs.List.{list_any}
use Rattle.std.proofs.Math.Bool.{or-false, or_assoc}
use Rattle.std.proofs.lemmas.Bool.{or_left, or_parts, or_right}
use Rattle.std.proofs.lemmas.List.Folds.{list_any-append}
use Rattle.mal_pool.specs.Posts.{AreKnown}
use Rattle.mal_pool.specs.Testing.{HasPosts}
use Rattle.spec_job.specs.KeyedJob.{Key}
use Rattle.spec_hall.specs.Events.{Event, Open, Revise, Reask, Close, Balance, Start, Finish, Exchange, Leave, Arrive, moves}
use Rattle.spec_hall.specs.Own.{is_text, is_key}
use Rattle.spec_hall.specs.States.{keys_step, titled}
use Rattle.spec_hall.proofs.KeyLemmas.{is_text-Decides, is_key-same}
use Rattle.spec_run.specs.Complete.{is_post_of, key_of_job, job_events, open_events, jobs_of_tenant}
use Rattle.spec_run.proofs.KeyLemmas.{job-found}
use Rattle.spec_script.specs.Script.{ScriptedJob, Scripted}

-- whether an event opens a job
abbrev opens-key : Key → Event → Bool
opens-key k e = list_any (is_key k) (keys_step [] e)

true-not-false : true ≡ false → ⊥
true-not-false e = cc

-- after an event that moves no job a key is there that was there before it, or that it opens
key-step : (k : Key) (keys : List Key) (e : Event) → moves e ≡ false → list_any (is_key k) (keys_step keys e) ≡ (list_any (is_key k) keys || opens-key k e)
key-step k keys (Open i ask) stay = list_any-append (is_key k) keys (i ∷ [])
key-step k keys (Revise i number r) stay = sym (or-false (list_any (is_key k) keys))
key-step k keys (Reask i w) stay = sym (or-false (list_any (is_key k) keys))
key-step k keys (Close i) stay = sym (or-false (list_any (is_key k) keys))
key-step k keys (Balance shares) stay = sym (or-false (list_any (is_key k) keys))
key-step k keys (Start i index worker) stay = sym (or-false (list_any (is_key k) keys))
key-step k keys (Finish i index worker outcome) stay = sym (or-false (list_any (is_key k) keys))
key-step k keys (Exchange i) stay = sym (or-false (list_any (is_key k) keys))
key-step k keys (Leave i) stay = absurd (cc)
key-step k keys (Arrive i brought) stay = absurd (cc)

-- so it is after a history in which no job moves
key-there : (k : Key) (h : List Event) (keys : List Key) → list_any moves h ≡ false → list_any (is_key k) (fold keys_step keys h) ≡ (list_any (is_key k) keys || list_any (opens-key k) h)
key-there k [] keys stay = sym (or-false (list_any (is_key k) keys))
key-there k (e ∷ es) keys stay =
    let parts = or_parts (moves e) (list_any moves es) stay in
    key-there k es (keys_step keys e) parts.1
    ∙ (ap (λ (x : Bool). x || list_any (opens-key k) es) (key-step k keys e parts.0)
    ∙ or_assoc (list_any (is_key k) keys) (opens-key k e) (list_any (opens-key k) es))

-- what stands in a part of a list that was kept stands in the list
any-kept : (p q : Event → Bool) (es : List Event) → list_any p (filter q es) ≡ true → list_any p es ≡ true
any-kept p q [] e = e
any-kept p q (x ∷ xs) e = by_test (q x) e (any-kept p q xs)
  where
    by_test : (b : Bool) → list_any p (cond b (x ∷ filter q xs) (filter q xs)) ≡ true → (list_any p (filter q xs) ≡ true → list_any p xs ≡ true) → (p x || list_any p xs) ≡ true
    by_test false h rest = or_right (p x) (list_any p xs) (rest h)
    by_test true h rest = by_first (p x) h
      where
        by_first : (b : Bool) → (b || list_any p (filter q xs)) ≡ true → (b || list_any p xs) ≡ true
        by_first true g = refl
        by_first false g = rest g

-- a tenant's posts of a script open each job of the tenant
posts-open : (before : List ScriptedJob) (j : ScriptedJob) (after : List ScriptedJob) (rest : List Event) → list_any (opens-key (key_of_job j)) (open_events (filter (λ i. is_text j.tenant i.tenant) (before ++ j ∷ after)) ++ rest) ≡ true
posts-open [] j after rest = by_test (is_text j.tenant j.tenant) ((is_text-Decides j.tenant j.tenant).1 refl)
  where
    by_test : (b : Bool) → b ≡ true → list_any (opens-key (key_of_job j)) (open_events (cond b (j ∷ filter (λ i. is_text j.tenant i.tenant) after) (filter (λ i. is_text j.tenant i.tenant) after)) ++ rest) ≡ true
    by_test true e = or_left (is_key (key_of_job j) (key_of_job j) || false) _ (or_left (is_key (key_of_job j) (key_of_job j)) false (is_key-same (key_of_job j)))
    by_test false e = absurd (true-not-false (sym e))
posts-open (i ∷ is) j after rest = by_test (is_text j.tenant i.tenant) (posts-open is j after rest)
  where
    kept : List ScriptedJob
    kept = filter (λ x. is_text j.tenant x.tenant) (is ++ j ∷ after)

    by_test : (b : Bool) → list_any (opens-key (key_of_job j)) (open_events kept ++ rest) ≡ true → list_any (opens-key (key_of_job j)) (open_events (cond b (i ∷ kept) kept) ++ rest) ≡ true
    by_test true e = or_right (is_key (key_of_job j) (key_of_job i) || false) (list_any (opens-key (key_of_job j)) (open_events kept ++ rest)) e
    by_test false e = e

-- a history that has a script's posts knows its jobs
known-from : (s : Scripted) (h : List Event) (before js : List ScriptedJob) → HasPosts s h → s.jobs ≡ before ++ js → AreKnown h js
known-from s h before [] has is = tt
known-from s h before (j ∷ js) has is = (
  (titled h k, job-found h k (key-there k h [] has.stay ∙ (any-kept (opens-key k) (is_post_of j.tenant) h there))),
  known-from s h (before ++ j ∷ []) js has (is ∙ sym (append_assoc before (j ∷ []) js)),
)
  where
    k : Key
    k = key_of_job j

    there : list_any (opens-key k) (filter (is_post_of j.tenant) h) ≡ true
    there =
        ap (list_any (opens-key k)) (has.posts j.tenant)
        ∙ (ap (λ (x : List ScriptedJob). list_any (opens-key k) (open_events (filter (λ i. is_text j.tenant i.tenant) x) ++ flat_map job_events (jobs_of_tenant j.tenant s))) is
        ∙ posts-open before j js (flat_map job_events (jobs_of_tenant j.tenant s)))

pub posts-known : (s : Scripted) (h : List Event) → HasPosts s h → AreKnown h s.jobs
posts-known s h has = known-from s h [] s.jobs has refl
