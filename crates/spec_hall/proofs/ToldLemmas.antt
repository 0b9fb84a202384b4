-- The own events of a job that a history tells are those of the hall.
use Rattle.std.proofs.Common.{◌≡◌, ℕ, ◌+◌, ◌==◌, Bool, true, false, cond, if◌then◌else◌, List, [], ◌∷◌, ◌++◌, length, map, fold, find, Some, refl, sym, ◌∙◌, ap, subst, append_assoc, append-nil, length-append}
use Rattle.std.specs.List.{list_any}
use Rattle.std.specs.Option.{option_map_or}
use Rattle.std.proofs.lemmas.Bool.{both_ways, or_parts}
use Rattle.std.proofs.lemmas.List.{map-append}
use Rattle.std.proofs.lemmas.List.Sums.{fold-append, fold_push}
use Rattle.mal_history.specs.declared.event.Event as written
use Rattle.mal_history.specs.declared.event.Event.TheVariants as of
use Rattle.mal_history.specs.declared.event.Share.{Share}
use Rattle.mal_history.specs.Own as text
use Rattle.spec_job.specs.KeyedJob.{Key}
use Rattle.spec_job.specs.SoloMachine.{Own, Opened, Revised, Reasked, Closed, Volume, Started, Finished, Exchanged, SoloMachine, solo, solo_step, unopened}
use Rattle.spec_job.proofs.StepLemmas.{start-keeps, finish-keeps}
use Rattle.spec_hall.specs.Events.{Event, Open, Revise, Reask, Close, Balance, Start, Finish, Exchange, Leave, Arrive, bare, key_of}
use Rattle.spec_hall.specs.Legal.{Allowed, LegalFrom}
use Rattle.spec_hall.specs.Own.{own, own_step, adds, adds_volume, arrives, is_key, volume_in, volume_after, volume_step}
use Rattle.spec_hall.specs.Told.{LegalOwnIsTold, LegalOwnIsToldBehind, next_number, told, told_from}
use Rattle.spec_hall.proofs.KeyLemmas.{is_key-Decides, is_key-back, is_key-same}
use Rattle.spec_hall.proofs.MovedLemmas.{own-behind}
use Rattle.spec_hall.proofs.PushLemmas.{own-push}
use Rattle.spec_hall.proofs.StatesLemmas.{job_of-found}
use Rattle.spec_hall.proofs.VolumeLemmas.{revise-keeps}

-- both tests of a key are one
same-test : (k j : Key) → text.is_of k.tenant k.job j.tenant j.job ≡ is_key k j
same-test k j = by_test (is_key k j) refl
  where
    by_test : (b : Bool) → is_key k j ≡ b → is_key j k ≡ b
    by_test true q = sym (ap (λ (x : Key). is_key x k) ((is_key-Decides k j).0 q)) ∙ is_key-same k
    by_test false q = is_key-back k j q

-- and so is what a balancing gives
same-volume : (k : Key) (shares : List Share) → text.volume_in k.tenant k.job shares ≡ volume_in k shares
same-volume k [] = refl
same-volume k (s ∷ shares) = ap (λ (b : Bool). option_map_or (λ (x : Share). x.volume) (cond b (Some s) (find (λ (x : Share). text.is_of k.tenant k.job x.tenant x.job) shares)) 0) (same-test k (key_of s)) ∙ by_test (same-volume k shares) (is_key k (key_of s))
  where
    by_test : text.volume_in k.tenant k.job shares ≡ volume_in k shares → (b : Bool) → option_map_or (λ (x : Share). x.volume) (cond b (Some s) (find (λ (x : Share). text.is_of k.tenant k.job x.tenant x.job) shares)) 0 ≡ option_map_or (λ (x : Share). x.volume) (cond b (Some s) (find (λ (x : Share). is_key k (key_of x)) shares)) 0
    by_test rest true = refl
    by_test rest false = rest

-- own events with one more after them
told-push : (k : Key) (n : ℕ) (os : List Own) (o : Own) → told_from k n (os ++ o ∷ []) ≡ told_from k n os ++ told k (fold next_number n os) o ∷ []
told-push k n [] o = refl
told-push k n (x ∷ os) o = ap (λ (es : List written.Event). told k n x ∷ es) (told-push k (next_number n x) os o)

-- the number of a machine's next revision
step-number : (s : SoloMachine) (o : Own) → length (solo_step s o).revisions + 1 ≡ next_number (length s.revisions + 1) o
step-number s (Opened ask) = refl
step-number s (Revised r) = ap (λ n. n + 1) (ap length (revise-keeps s r).revisions ∙ length-append s.revisions (r ∷ []))
step-number s (Reasked w) = refl
step-number s Closed = refl
step-number s (Volume v) = refl
step-number s (Started i) = ap (λ xs. length xs + 1) (start-keeps s i).revisions
step-number s (Finished i o) = ap (λ xs. length xs + 1) (finish-keeps s i o).revisions
step-number s Exchanged = refl

steps-number : (s : SoloMachine) (os : List Own) → length (fold solo_step s os).revisions + 1 ≡ fold next_number (length s.revisions + 1) os
steps-number s [] = refl
steps-number s (o ∷ os) = steps-number (solo_step s o) os ∙ ap (λ n. fold next_number n os) (step-number s o)

solo-number : (os : List Own) → length (solo os).revisions + 1 ≡ fold next_number 1 os
solo-number os = steps-number unopened os

-- what is told of a job that has these own events after what was told before
abbrev so_far : Key → ℕ → List written.Event → List Own → text.OwnSoFar
so_far k first front os = text.told_of (front ++ told_from k first os) (volume_after os)

-- one more own event is told
joins : (k : Key) (first : ℕ) (front : List written.Event) (os : List Own) (o : Own) (v : ℕ) → volume_step (volume_after os) o ≡ v → text.told_of ((front ++ told_from k first os) ++ told k (fold next_number first os) o ∷ []) v ≡ so_far k first front (os ++ o ∷ [])
joins k first front os o v after =
    let tells : (front ++ told_from k first os) ++ told k (fold next_number first os) o ∷ [] ≡ front ++ told_from k first (os ++ o ∷ []) = append_assoc front (told_from k first os) (told k (fold next_number first os) o ∷ []) ∙ ap (λ (es : List written.Event). front ++ es) (sym (told-push k first os o)) in
    let volume : v ≡ volume_after (os ++ o ∷ []) = sym after ∙ sym (fold_push volume_step 0 os o) in
    ap (λ (es : List written.Event). text.told_of es v) tells ∙ ap (λ n. text.told_of (front ++ told_from k first (os ++ o ∷ [])) n) volume

-- an event of a job that gives it no volume
event-told : (k j : Key) (first : ℕ) (front : List written.Event) (os : List Own) (o : Own) (e : written.Event) → volume_step (volume_after os) o ≡ volume_after os → (is_key k j ≡ true → e ≡ told k (fold next_number first os) o) → text.tells (text.is_of k.tenant k.job j.tenant j.job) e (so_far k first front os) ≡ so_far k first front (adds (is_key k j) os o)
event-told k j first front os o e still is = ap (λ b. text.tells b e (so_far k first front os)) (same-test k j) ∙ by_test (is_key k j) is
  where
    by_test : (b : Bool) → (b ≡ true → e ≡ told k (fold next_number first os) o) → text.tells b e (so_far k first front os) ≡ so_far k first front (adds b os o)
    by_test true q = ap (λ (x : written.Event). text.tells true x (so_far k first front os)) (q refl) ∙ joins k first front os o (volume_after os) still
    by_test false q = refl

-- a volume that is given
volume-told : (k : Key) (first : ℕ) (front : List written.Event) (os : List Own) (v : ℕ) → text.tells_volume k.tenant k.job v (so_far k first front os) ≡ so_far k first front (adds_volume v os)
volume-told k first front os v = by_test (v == volume_after os)
  where
    by_test : (b : Bool) → cond b (so_far k first front os) (text.told_of ((front ++ told_from k first os) ++ told k (fold next_number first os) (Volume v) ∷ []) v) ≡ so_far k first front (cond b os (os ++ Volume v ∷ []))
    by_test true = refl
    by_test false = joins k first front os (Volume v) v refl

-- the number of a revision that is allowed is the next one
abbrev IsNext : Key → ℕ → Event → Type 0
IsNext k number (Revise j n r) = is_key k j ≡ true → n ≡ number
IsNext k number e = Unit {0}

allowed-next : (w : ℕ) (past : List Event) (k : Key) (e : Event) → Allowed w past e → IsNext k (fold next_number 1 (own k past)) e
allowed-next w past k (Open j ask) may = tt
allowed-next w past k (Revise j n r) may = λ mine.
    let same : k ≡ j = (is_key-Decides k j).0 mine in
    let machine : length (solo (own j past)).revisions ≡ length may.0.state.revisions = ap (λ t. length t.state.revisions) (job_of-found past j may.0 may.1.job).machine in
    may.1.next ∙ (ap (λ x. x + 1) (sym machine) ∙ (solo-number (own j past) ∙ ap (λ (x : Key). fold next_number 1 (own x past)) (sym same)))
allowed-next w past k (Reask j weight) may = tt
allowed-next w past k (Close j) may = tt
allowed-next w past k (Balance shares) may = tt
allowed-next w past k (Start j index worker) may = tt
allowed-next w past k (Finish j index worker outcome) may = tt
allowed-next w past k (Exchange j) may = tt
allowed-next w past k (Leave j) may = tt
allowed-next w past k (Arrive j brought) may = tt

-- an event that is no arrival of the job
step-told : (k : Key) (first : ℕ) (front : List written.Event) (os : List Own) (e : Event) → IsNext k (fold next_number first os) e → arrives k e ≡ false → text.own_step k.tenant k.job (so_far k first front os) (bare e) ≡ so_far k first front (own_step k os e)
step-told k first front os (Open j ask) next free = event-told k j first front os (Opened ask) (of.Open k.tenant k.job ask) refl (λ mine. refl)
step-told k first front os (Revise j n r) next free = event-told k j first front os (Revised r) (of.Revise k.tenant k.job n) refl (λ mine. ap (λ (x : ℕ). of.Revise k.tenant k.job x) (next mine))
step-told k first front os (Reask j weight) next free = event-told k j first front os (Reasked weight) (of.Reask k.tenant k.job weight) refl (λ mine. refl)
step-told k first front os (Close j) next free = event-told k j first front os Closed (of.Close k.tenant k.job) refl (λ mine. refl)
step-told k first front os (Balance shares) next free = ap (λ v. text.tells_volume k.tenant k.job v (so_far k first front os)) (same-volume k shares) ∙ volume-told k first front os (volume_in k shares)
step-told k first front os (Start j index worker) next free = event-told k j first front os (Started index) (of.Start k.tenant k.job index 1) refl (λ mine. refl)
step-told k first front os (Finish j index worker outcome) next free = event-told k j first front os (Finished index outcome) (of.Finish k.tenant k.job index 1 outcome) refl (λ mine. refl)
step-told k first front os (Exchange j) next free = event-told k j first front os Exchanged (of.Exchange k.tenant k.job) refl (λ mine. refl)
step-told k first front os (Leave j) next free = ap (λ b. text.tells_leave k.tenant k.job b (so_far k first front os)) (same-test k j) ∙ by_test (is_key k j)
  where
    by_test : (b : Bool) → text.tells_leave k.tenant k.job b (so_far k first front os) ≡ so_far k first front (cond b (adds_volume 0 os) os)
    by_test true = volume-told k first front os 0
    by_test false = refl
step-told k first front os (Arrive j brought) next free = ap (λ b. text.tells_arrival k.tenant k.job b (so_far k first front os)) (same-test k j) ∙ by_test (is_key k j) free
  where
    by_test : (b : Bool) → b ≡ false → text.tells_arrival k.tenant k.job b (so_far k first front os) ≡ so_far k first front (cond b brought os)
    by_test true q = absurd (both_ways true q refl)
    by_test false q = refl

-- legal events that are no arrivals of the job, after what it brought
all-told : (w : ℕ) (k : Key) (front : List written.Event) (pre os : List Own) (past es : List Event) → volume_after pre ≡ 0 → own k past ≡ pre ++ os → LegalFrom w past es → list_any (arrives k) es ≡ false → fold (text.own_step k.tenant k.job) (so_far k (fold next_number 1 pre) front os) (map bare es) ≡ so_far k (fold next_number 1 pre) front (fold (own_step k) os es)
all-told w k front pre os past [] none is legal free = refl
all-told w k front pre os past (e ∷ es) none is legal free =
    let parts = or_parts (arrives k e) (list_any (arrives k) es) free in
    let number : fold next_number 1 (own k past) ≡ fold next_number (fold next_number 1 pre) os = ap (λ (xs : List Own). fold next_number 1 xs) is ∙ fold-append next_number 1 pre os in
    let next : IsNext k (fold next_number (fold next_number 1 pre) os) e = subst (λ n. IsNext k n e) number (allowed-next w past k e legal.0) in
    let now : own k (past ++ e ∷ []) ≡ pre ++ own_step k os e = own-push k past e ∙ (ap (λ (xs : List Own). own_step k xs e) is ∙ own-behind k pre os e none parts.0) in
    ap (λ (t : text.OwnSoFar). fold (text.own_step k.tenant k.job) t (map bare es)) (step-told k (fold next_number 1 pre) front os e next parts.0)
    ∙ all-told w k front pre (own_step k os e) (past ++ e ∷ []) es none now legal.1 parts.1

pub legal-own_is_told : LegalOwnIsTold
legal-own_is_told w h k legal free = ap (λ (t : text.OwnSoFar). t.own) (all-told w k [] [] [] [] h refl refl legal free)

-- the parts of a legal history at an event
record IsCut (w : ℕ) (past : List Event) (e : Event) (later : List Event) : Type 0 where
  may : Allowed w past e
  behind : LegalFrom w (past ++ e ∷ []) later

cut : (w : ℕ) (past front : List Event) (e : Event) (later : List Event) → LegalFrom w past (front ++ e ∷ later) → IsCut w (past ++ front) e later
cut w past [] e later legal = subst (λ (h : List Event). IsCut w h e later) (sym (append-nil past)) (record { may = legal.0; behind = legal.1 })
cut w past (x ∷ front) e later legal = subst (λ (h : List Event). IsCut w h e later) (append_assoc past (x ∷ []) front) (cut w (past ++ x ∷ []) front e later legal.1)

pub legal-own_is_told_behind : LegalOwnIsToldBehind
legal-own_is_told_behind w past later k brought legal free =
    ap (λ (es : List written.Event). text.own k.tenant k.job es) (map-append bare past (Arrive k brought ∷ later))
    ∙ (ap (λ (t : text.OwnSoFar). t.own) (fold-append (text.own_step k.tenant k.job) (text.told_of [] 0) (map bare past) (of.Arrive k.tenant k.job ∷ map bare later))
    ∙ (ap (λ (t : text.OwnSoFar). (fold (text.own_step k.tenant k.job) t (map bare later)).own) arrival
    ∙ (ap (λ (t : text.OwnSoFar). t.own) (all-told w k (of.Arrive k.tenant k.job ∷ []) brought [] (past ++ Arrive k brought ∷ []) later here.may.still now here.behind free)
    ∙ ap (λ n. of.Arrive k.tenant k.job ∷ told_from k n (own k later)) (sym (solo-number brought)))))
  where
    here : IsCut w past (Arrive k brought) later
    here = cut w [] past (Arrive k brought) later legal

    told_before : text.OwnSoFar
    told_before = fold (text.own_step k.tenant k.job) (text.told_of [] 0) (map bare past)

    arrival : text.own_step k.tenant k.job told_before (of.Arrive k.tenant k.job) ≡ text.told_of (of.Arrive k.tenant k.job ∷ []) 0
    arrival = ap (λ b. text.tells_arrival k.tenant k.job b told_before) (same-test k k ∙ is_key-same k)

    now : own k (past ++ Arrive k brought ∷ []) ≡ brought ++ []
    now = own-push k past (Arrive k brought) ∙ (ap (λ (b : Bool). if b then brought else own k past) (is_key-same k) ∙ sym (append-nil brought))
