use Rattle.std.proofs.Common.{◌≡◌, ℕ, Bool, true, false, cond, ◌||◌, if◌then◌else◌, List, [], ◌∷◌, ◌++◌, map, find, Some, None, refl, sym, ◌∙◌, ap, subst, append_assoc, append-nil}
use Rattle.std.specs.List.{list_any}
use Rattle.std.proofs.lemmas.Bool.{or_left}
use Rattle.std.proofs.lemmas.List.Folds.{list_any-append}
use Rattle.spec_job.specs.KeyedJob.{Key, KeyedJob}
use Rattle.spec_hall.specs.Events.{Event, Open, Revise, Reask, Close, Balance, Start, Finish, Exchange, Leave, Arrive}
use Rattle.spec_hall.specs.Own.{is_key, leaves}
use Rattle.spec_hall.specs.States.{keys_of, keys_step, states, titled}
use Rattle.spec_hall.specs.Legal.{Allowed, LegalFrom, job_of}
use Rattle.spec_hall.proofs.KeyLemmas.{is_key-Decides, is_key-back, filter-there}

-- what each allowed event keeps holds after legal events where it held before
pub legal_from-keeps : (w : ℕ) (P : List Event → Type 0) → ((past : List Event) (e : Event) → Allowed w past e → P past → P (past ++ e ∷ [])) → (past es : List Event) → LegalFrom w past es → P past → P (past ++ es)
legal_from-keeps w P step past [] legal h = subst P (sym (append-nil past)) h
legal_from-keeps w P step past (e ∷ es) legal h = subst P (append_assoc past (e ∷ []) es) (legal_from-keeps w P step (past ++ e ∷ []) es legal.1 (step past e legal.0 h))

-- a key that is there stays, unless it leaves
pub keys-stay : (k : Key) (ks : List Key) (e : Event) → leaves k e ≡ false → list_any (is_key k) ks ≡ true → list_any (is_key k) (keys_step ks e) ≡ true
keys-stay k ks (Open i ask) stays h = list_any-append (is_key k) ks (i ∷ []) ∙ or_left (list_any (is_key k) ks) (list_any (is_key k) (i ∷ [])) h
keys-stay k ks (Revise i number r) stays h = h
keys-stay k ks (Reask i weight) stays h = h
keys-stay k ks (Close i) stays h = h
keys-stay k ks (Balance shares) stays h = h
keys-stay k ks (Start i index worker) stays h = h
keys-stay k ks (Finish i index worker outcome) stays h = h
keys-stay k ks (Exchange i) stays h = h
keys-stay k ks (Leave i) stays h = filter-there k i ks h (is_key-back k i stays)
keys-stay k ks (Arrive i brought) stays h = list_any-append (is_key k) ks (i ∷ []) ∙ or_left (list_any (is_key k) ks) (list_any (is_key k) (i ∷ [])) h

-- the job of a key is its machine run alone, where the key was opened
job_of-keys : (past : List Event) (k : Key) (ks : List Key) → find (λ (t : KeyedJob). is_key k t.key) (map (titled past) ks) ≡ (if list_any (is_key k) ks then Some (titled past k) else None)
job_of-keys past k [] = refl
job_of-keys past k (x ∷ xs) = by_test (job_of-keys past k xs) (is_key k x) refl
  where
    by_test : find (λ (t : KeyedJob). is_key k t.key) (map (titled past) xs) ≡ (if list_any (is_key k) xs then Some (titled past k) else None) → (b : Bool) → is_key k x ≡ b → cond b (Some (titled past x)) (find (λ (t : KeyedJob). is_key k t.key) (map (titled past) xs)) ≡ (if b || list_any (is_key k) xs then Some (titled past k) else None)
    by_test rest true q = ap (λ (y : Key). Some (titled past y)) (sym ((is_key-Decides k x).0 q))
    by_test rest false q = rest

pub job_of-states : (past : List Event) (k : Key) → job_of k (states past) ≡ (if list_any (is_key k) (keys_of past) then Some (titled past k) else None)
job_of-states past k = job_of-keys past k (keys_of past)

-- a job that is found was opened, and is its machine
pub record IsFound (past : List Event) (k : Key) (t : KeyedJob) : Type 0 where
  pub opened : list_any (is_key k) (keys_of past) ≡ true
  pub machine : titled past k ≡ t

pub job_of-found : (past : List Event) (k : Key) (t : KeyedJob) → job_of k (states past) ≡ Some t → IsFound past k t
job_of-found past k t e = by_test (list_any (is_key k) (keys_of past)) refl (sym (job_of-states past k) ∙ e)
  where
    by_test : (b : Bool) → list_any (is_key k) (keys_of past) ≡ b → cond b (Some (titled past k)) None ≡ Some t → IsFound past k t
    by_test true q f = record { opened = q; machine = cc }
    by_test false q f = absurd (cc)

-- a job that is not found was not opened
pub job_of-absent : (past : List Event) (k : Key) → job_of k (states past) ≡ None → list_any (is_key k) (keys_of past) ≡ false
job_of-absent past k e = by_test (list_any (is_key k) (keys_of past)) (sym (job_of-states past k) ∙ e)
  where
    by_test : (b : Bool) → cond b (Some (titled past k)) None ≡ None → b ≡ false
    by_test true f = absurd (cc)
    by_test false f = refl
