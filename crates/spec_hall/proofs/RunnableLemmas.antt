use Rattle.std.proofs.Common.{◌≡◌, ℕ, suc, ◌+◌, ◌-◌, ◌<◌, ◌≤◌, Bool, true, false, cond, List, [], ◌∷◌, ◌++◌, length, map, filter, find, fold, slice_get, Option, Some, None, refl, sym, ◌∙◌, ap, subst, arith, append_assoc, append-nil}
use Rattle.std.specs.Prelude.{All, nat_lt}
use Rattle.std.specs.Option.{option_map}
use Rattle.std.proofs.lemmas.Option.{slice_get-map}
use Rattle.std.proofs.lemmas.List.Elements.{All-nil, All-head, All-tail, All-weaker, All-append, All-map}
use Rattle.mal_base.specs.Limits.{limits}
use Rattle.mal_revision.specs.Posted.{Posted}
use Rattle.spec_node.specs.Load.{counted}
use Rattle.spec_node.proofs.BatchLemmas.{All-filtered, all-of}
use Rattle.spec_job.specs.SoloMachine.{Own, Opened, Revised, Reasked, Closed, Volume, Started, Finished, Exchanged, unopened, solo, startable, place_at, clauses_in}
use Rattle.spec_job.specs.KeyedJob.{Key, KeyedJob}
use Rattle.spec_job.specs.Runnable.{MayCome, MayHappen, IsRunnable}
use Rattle.spec_job.proofs.LawfulLemmas.{lawful-runnable}
use Rattle.spec_job.proofs.OwnLemmas.{runnable-clauses_own}
use Rattle.spec_job.proofs.RefutingLemmas.{runnable-answers_follow, runnable-answers_refute, runnable-answers_solve, runnable-logs_derived}
use Rattle.spec_hall.specs.Events.{Event, Open, Revise, Reask, Close, Balance, Start, Finish, Exchange, Leave, Arrive}
use Rattle.spec_hall.specs.Own.{own, own_step, adds, adds_volume, is_key, volume_in}
use Rattle.spec_hall.specs.States.{Candidate, keys_of, states, titled, candidates_of, candidates_from, fewer}
use Rattle.spec_hall.specs.Legal.{LegalFrom, Allowed, MayRevise, MayStart}
use Rattle.spec_hall.specs.Laws.{LegalAnswersFollow, LegalAnswersRefute, LegalAnswersSolve, LegalClausesOwn, LegalIsRunnable, LegalLogsDerived}
use Rattle.spec_hall.proofs.KeyLemmas.{is_key-Decides}
use Rattle.spec_hall.proofs.PushLemmas.{own-push, adds-keeps, adds_volume-keeps}
use Rattle.spec_hall.proofs.OrderlyLemmas.{IsOrderly, empty-orderly, orderly-push}

-- the job that is found under a key is its machine run alone
pub find-titled : (past : List Event) (k : Key) (ks : List Key) (t : KeyedJob) → find (λ (x : KeyedJob). is_key k x.key) (map (titled past) ks) ≡ Some t → titled past k ≡ t
find-titled past k [] t e = absurd (cc)
find-titled past k (x ∷ xs) t e = by_test (find-titled past k xs t) (is_key k x) refl e
  where
    by_test : (find (λ (y : KeyedJob). is_key k y.key) (map (titled past) xs) ≡ Some t → titled past k ≡ t) → (b : Bool) → is_key k x ≡ b → cond b (Some (titled past x)) (find (λ (y : KeyedJob). is_key k y.key) (map (titled past) xs)) ≡ Some t → titled past k ≡ t
    by_test rest true q f = let same : titled past x ≡ t = cc in ap (titled past) ((is_key-Decides k x).0 q) ∙ same
    by_test rest false q f = rest f

-- a candidate of these jobs, of which the first has this place, is a node that may start
pub record IsCandidate (first : ℕ) (jobs : List KeyedJob) (c : Candidate) : Type 0 where
  pub behind : first ≤ c.job
  pub within : c.job < first + length jobs
  pub may : (t : KeyedJob) → slice_get jobs (c.job - first) ≡ Some t → startable t.state c.index ≡ true

candidate-first : (first : ℕ) (t : KeyedJob) (ts : List KeyedJob) (i starts : ℕ) → startable t.state i ≡ true → IsCandidate first (t ∷ ts) (record { job = first; index = i; starts = starts })
candidate-first first t ts i starts h = record { behind = omega arith; within = omega arith; may = λ u e. at_first u (subst (λ (n : ℕ). slice_get (t ∷ ts) n ≡ Some u) zero_is e) }
  where
    zero_is : first - first ≡ 0
    zero_is = omega arith

    at_first : (u : KeyedJob) → slice_get (t ∷ ts) 0 ≡ Some u → startable u.state i ≡ true
    at_first u e = let same : t ≡ u = cc in subst (λ (x : KeyedJob). startable x.state i ≡ true) same h

candidate-later : (first : ℕ) (t : KeyedJob) (ts : List KeyedJob) (c : Candidate) → IsCandidate (first + 1) ts c → IsCandidate first (t ∷ ts) c
candidate-later first t ts c h =
    let behind : first + 1 ≤ c.job = h.behind in
    let next : c.job - first ≡ suc (c.job - (first + 1)) = omega arith in
    record { behind = omega arith; within = omega (arith, h.within); may = λ u e. h.may u (subst (λ (n : ℕ). slice_get (t ∷ ts) n ≡ Some u) next e) }

pub candidates-may : (first : ℕ) (jobs : List KeyedJob) → All (IsCandidate first jobs) (candidates_from first jobs)
candidates-may first [] = All-nil (IsCandidate first [])
candidates-may first (t ∷ ts) = All-append (IsCandidate first (t ∷ ts)) (candidates_of first t.state) (candidates_from (first + 1) ts) here (All-weaker (IsCandidate (first + 1) ts) (IsCandidate first (t ∷ ts)) (candidate-later first t ts) (candidates_from (first + 1) ts) (candidates-may (first + 1) ts))
  where
    one : ℕ → Candidate
    one i = record { job = first; index = i; starts = (place_at t.state i).starts }

    passed : All (λ (i : ℕ). Unit {0} × (startable t.state i ≡ true)) (filter (startable t.state) (counted 0 t.state.volume))
    passed = All-filtered (λ (i : ℕ). Unit {0}) (startable t.state) (counted 0 t.state.volume) (all-of (λ (i : ℕ). Unit {0}) (λ i. tt) (counted 0 t.state.volume))

    here : All (IsCandidate first (t ∷ ts)) (candidates_of first t.state)
    here = All-map (IsCandidate first (t ∷ ts)) one (filter (startable t.state) (counted 0 t.state.volume)) (All-weaker (λ (i : ℕ). Unit {0} × (startable t.state i ≡ true)) (λ (i : ℕ). IsCandidate first (t ∷ ts) (one i)) (λ i k. candidate-first first t ts i (place_at t.state i).starts k.1) (filter (startable t.state) (counted 0 t.state.volume)) passed)

-- what holds of each candidate holds of the one with the fewest starts
pub fewest-All : (P : Candidate → Type 0) (cs : List Candidate) (o : Option Candidate) → ((b : Candidate) → o ≡ Some b → P b) → All P cs → (c : Candidate) → fold fewer o cs ≡ Some c → P c
fewest-All P [] o h a c e = h c e
fewest-All P (x ∷ xs) o h a c e = fewest-All P xs (fewer o x) (next o h) (All-tail P x xs a) c e
  where
    here : P x
    here = All-head P x xs a

    by_test : (t : Bool) (b d : Candidate) → P b → cond t (Some x) (Some b) ≡ Some d → P d
    by_test true b d k q = let same : x ≡ d = cc in subst P same here
    by_test false b d k q = let same : b ≡ d = cc in subst P same k

    next : (p : Option Candidate) → ((b : Candidate) → p ≡ Some b → P b) → (d : Candidate) → fewer p x ≡ Some d → P d
    next None k d q = let same : x ≡ d = cc in subst P same here
    next (Some b) k d q = by_test (nat_lt x.starts b.starts) b d (k b refl) q

-- the node that is picked may start
pub picked-may : (w : ℕ) (past : List Event) (k : Key) (i worker : ℕ) (choice : Candidate) → MayStart w past k i worker choice → startable (solo (own k past)) i ≡ true
picked-may w past k i worker choice may =
    let chosen : IsCandidate 0 (states past) choice = fewest-All (IsCandidate 0 (states past)) (candidates_from 0 (states past)) None (λ b e. absurd (cc)) (candidates-may 0 (states past)) choice may.first in
    let same : choice.job ≡ choice.job - 0 = omega arith in
    let at : slice_get (states past) choice.job ≡ Some (titled past k) = slice_get-map (titled past) (keys_of past) choice.job ∙ ap (option_map (titled past)) may.key in
    subst (λ (n : ℕ). startable (solo (own k past)) n ≡ true) may.place (chosen.may (titled past k) (subst (λ (n : ℕ). slice_get (states past) n ≡ Some (titled past k)) same at))

-- a revision that a job may get may come to its machine
revised-may : (past : List Event) (k : Key) (number : ℕ) (r : Posted) (t : KeyedJob) → MayRevise past k number r t → MayCome (solo (own k past)) r
revised-may past k number r t may =
    let same : t ≡ titled past k = sym (find-titled past k (keys_of past) t may.job) in
    let room : clauses_in t.state.revisions + length r.clauses ≤ limits.clauses = may.clause_room in
    let own_room : clauses_in (solo (own k past)).revisions + length r.clauses ≤ limits.clauses = subst (λ (x : KeyedJob). clauses_in x.state.revisions + length r.clauses ≤ limits.clauses) same room in
    record { posted = may.posted; room = omega arith }

-- one more own event that may happen
runnable-push : (past es : List Own) (o : Own) → IsRunnable past es → MayHappen (solo (past ++ es)) o → IsRunnable past (es ++ o ∷ [])
runnable-push past [] o h may = (subst (λ (xs : List Own). MayHappen (solo xs) o) (append-nil past) may, tt)
runnable-push past (x ∷ xs) o h may = (h.0, runnable-push (past ++ x ∷ []) xs o h.1 (subst (λ (ys : List Own). MayHappen (solo ys) o) (sym (append_assoc past (x ∷ []) xs)) may))

adds-runnable : (mine : Bool) (es : List Own) (o : Own) → IsRunnable [] es → (mine ≡ true → MayHappen (solo es) o) → IsRunnable [] (adds mine es o)
adds-runnable mine es o h may = adds-keeps (IsRunnable []) mine es o h (λ joins. runnable-push [] es o h (may joins))

adds_volume-runnable : (v : ℕ) (es : List Own) → IsRunnable [] es → IsRunnable [] (adds_volume v es)
adds_volume-runnable v es h = adds_volume-keeps (IsRunnable []) v es h (runnable-push [] es (Volume v) h tt)

-- an event that is allowed leaves a job's own events runnable
event-runnable : (w : ℕ) (past : List Event) (e : Event) (j : Key) → Allowed w past e → IsOrderly past → IsRunnable [] (own j past) → IsRunnable [] (own_step j (own j past) e)
event-runnable w past (Open k ask) j may orderly h =
    adds-runnable (is_key j k) (own j past) (Opened ask) h (λ q. subst (λ (x : Key). solo (own x past) ≡ unopened) (sym ((is_key-Decides j k).0 q)) (ap solo (orderly.unknown k may.fresh)))
event-runnable w past (Revise k number r) j may orderly h = adds-runnable (is_key j k) (own j past) (Revised r) h (λ q. subst (λ (x : Key). MayCome (solo (own x past)) r) (sym ((is_key-Decides j k).0 q)) (revised-may past k number r may.0 may.1))
event-runnable w past (Reask k weight) j may orderly h = adds-runnable (is_key j k) (own j past) (Reasked weight) h (λ _. tt)
event-runnable w past (Close k) j may orderly h = adds-runnable (is_key j k) (own j past) Closed h (λ _. tt)
event-runnable w past (Balance shares) j may orderly h = adds_volume-runnable (volume_in j shares) (own j past) h
event-runnable w past (Start k index worker) j may orderly h = adds-runnable (is_key j k) (own j past) (Started index) h (λ q. subst (λ (x : Key). startable (solo (own x past)) index ≡ true) (sym ((is_key-Decides j k).0 q)) (picked-may w past k index worker may.0 may.1))
event-runnable w past (Finish k index worker outcome) j may orderly h = adds-runnable (is_key j k) (own j past) (Finished index outcome) h (λ _. tt)
event-runnable w past (Exchange k) j may orderly h = adds-runnable (is_key j k) (own j past) Exchanged h (λ _. tt)
event-runnable w past (Leave k) j may orderly h = by_test (is_key j k)
  where
    by_test : (b : Bool) → IsRunnable [] (cond b (adds_volume 0 (own j past)) (own j past))
    by_test true = adds_volume-runnable 0 (own j past) h
    by_test false = h
event-runnable w past (Arrive k brought) j may orderly h = by_test (is_key j k)
  where
    by_test : (b : Bool) → IsRunnable [] (cond b brought (own j past))
    by_test true = lawful-runnable brought may.lawful
    by_test false = h

legal_from-runnable : (w : ℕ) (past es : List Event) (j : Key) → LegalFrom w past es → IsOrderly past → IsRunnable [] (own j past) → IsRunnable [] (own j (past ++ es))
legal_from-runnable w past [] j legal orderly h = subst (λ (xs : List Event). IsRunnable [] (own j xs)) (sym (append-nil past)) h
legal_from-runnable w past (e ∷ es) j legal orderly h =
    let next : IsRunnable [] (own j (past ++ e ∷ [])) = subst (λ (os : List Own). IsRunnable [] os) (sym (own-push j past e)) (event-runnable w past e j legal.0 orderly h) in
    subst (λ (xs : List Event). IsRunnable [] (own j xs)) (append_assoc past (e ∷ []) es) (legal_from-runnable w (past ++ e ∷ []) es j legal.1 (orderly-push w past e legal.0 orderly) next)

-- a job's own events in a legal history are runnable
pub legal-is_runnable : LegalIsRunnable
legal-is_runnable w h legal k = legal_from-runnable w [] h k legal empty-orderly tt

-- its satisfiable answers carry models
pub legal-answers_solve : LegalAnswersSolve
legal-answers_solve w h legal k = runnable-answers_solve (own k h) (legal-is_runnable w h legal k)

-- none comes before its revision
pub legal-answers_follow : LegalAnswersFollow
legal-answers_follow w h legal k = runnable-answers_follow (own k h) (legal-is_runnable w h legal k)

pub legal-answers_refute : LegalAnswersRefute
legal-answers_refute w h legal k = runnable-answers_refute (own k h) (legal-is_runnable w h legal k)

pub legal-logs_derived : LegalLogsDerived
legal-logs_derived w h legal k = runnable-logs_derived (own k h) (legal-is_runnable w h legal k)

-- each clause of a job is its own
pub legal-clauses_own : LegalClausesOwn
legal-clauses_own w h legal k = runnable-clauses_own (own k h) (legal-is_runnable w h legal k)
