use Rattle.std.proofs.Common.{◌≡◌, ℕ, Bool, true, false, cond, ◌||◌, ◌==◌, nat_lt, List, [], ◌∷◌, ◌++◌, map, filter, find, Some, refl, sym, ◌∙◌, ap, subst}
use Rattle.std.specs.Prelude.{All}
use Rattle.std.specs.List.{list_any}
use Rattle.std.specs.Option.{option_map_or}
use Rattle.std.proofs.lemmas.Bool.{both_ways, false_from_ne_true, or_left, or_parts, or_from, or_right}
use Rattle.std.proofs.lemmas.List.Sums.{fold_push}
use Rattle.std.proofs.lemmas.Bool.Decides.{Decides-eqb}
use Rattle.std.proofs.lemmas.List.Folds.{list_any-append}
use Rattle.std.proofs.lemmas.List.Elements.{All-nil, All-cons, All-head, All-tail, All-weaker, All-push, All-filter}
use Rattle.mal_history.specs.declared.event.Share.{Share}
use Rattle.spec_job.specs.SoloMachine.{Own, Opened, Revised, Reasked, Closed, Volume, Started, Finished, Exchanged, solo, is_live, is_exchange_due}
use Rattle.spec_job.specs.KeyedJob.{Key, KeyedJob}
use Rattle.spec_hall.specs.Events.{Event, Open, Revise, Reask, Close, Balance, Start, Finish, Exchange, Leave, Arrive, key_of}
use Rattle.spec_hall.specs.Own.{own, own_step, adds, adds_volume, is_key, leaves, volume_in, volume_after, volume_step}
use Rattle.spec_hall.specs.States.{LeaseOut, Live, keys_of, keys_step, names_of, names_step, with_key, titled, lives, live_of, leases, leases_step, lease_of}
use Rattle.spec_hall.specs.Legal.{Allowed, Legal}
use Rattle.spec_hall.proofs.KeyLemmas.{AreApart, apart-push, apart-filter, filter-absent, filter-there, is_key-Decides, is_key-back, key-differs, key-stands, without}
use Rattle.spec_hall.proofs.PushLemmas.{own-push, keys-push, names-push, leases-push}
use Rattle.spec_hall.proofs.StatesLemmas.{job_of-absent, job_of-found, keys-stay, legal_from-keeps}

-- whether a key was opened
abbrev pub was_opened : List Event → Key → Bool
was_opened past k = list_any (is_key k) (keys_of past)

-- the job of a start that is out was opened
abbrev pub HasOpened : List Event → LeaseOut → Type 0
HasOpened past l = was_opened past l.key ≡ true

-- whether a key ever came
abbrev pub was_named : List Event → Key → Bool
was_named past k = list_any (is_key k) (names_of past)

-- the keys of the jobs there differ and are names; a key that is no name has no own events, one that is not there has no
-- volume, and the job of each start that is out is there
pub record IsOrderly (past : List Event) : Type 0 where
  pub apart : AreApart (keys_of past)
  pub known : (k : Key) → was_opened past k ≡ true → was_named past k ≡ true
  pub unknown : (k : Key) → was_named past k ≡ false → own k past ≡ []
  pub away : (k : Key) → was_opened past k ≡ false → volume_after (own k past) ≡ 0
  pub leased : All (HasOpened past) (leases past)

-- what a search finds is what holds of each
pub find-holds : {X : Type 0} (P : X → Type 0) (test : X → Bool) (xs : List X) (x : X) → All P xs → find test xs ≡ Some x → P x
find-holds P test [] x h e = absurd (cc)
find-holds {X} P test (y ∷ ys) x h e = by_test (find-holds P test ys x (All-tail P y ys h)) (test y) e
  where
    by_test : (find test ys ≡ Some x → P x) → (b : Bool) → cond b (Some y) (find test ys) ≡ Some x → P x
    by_test rest true q = let same : y ≡ x = cc in subst P same (All-head P y ys h)
    by_test rest false q = rest q

-- a key without a share gets no volume
pub volume_in-absent : (k : Key) (shares : List Share) → list_any (is_key k) (map key_of shares) ≡ false → volume_in k shares ≡ 0
volume_in-absent k [] h = refl
volume_in-absent k (s ∷ shares) h =
    let parts = or_parts (is_key k (key_of s)) (list_any (is_key k) (map key_of shares)) h in
    ap (λ (b : Bool). option_map_or (λ (x : Share). x.volume) (cond b (Some s) (find (λ (x : Share). is_key k (key_of x)) shares)) 0) parts.0 ∙ volume_in-absent k shares parts.1

-- a job that was not opened is not live
lives-absent : (past : List Event) (k : Key) (ks : List Key) → list_any (is_key k) ks ≡ false → list_any (is_key k) (map (λ (l : Live). l.key) (lives (map (titled past) ks))) ≡ false
lives-absent past k [] h = refl
lives-absent past k (x ∷ xs) h = by_test (lives-absent past k xs parts.1) (is_live (solo (own x past)))
  where
    parts : (is_key k x ≡ false) × (list_any (is_key k) xs ≡ false)
    parts = or_parts (is_key k x) (list_any (is_key k) xs) h

    keys : List KeyedJob → List Key
    keys ts = map (λ (l : Live). l.key) (map live_of ts)

    by_test : list_any (is_key k) (map (λ (l : Live). l.key) (lives (map (titled past) xs))) ≡ false → (b : Bool) → list_any (is_key k) (map (λ (l : Live). l.key) (map live_of (cond b (titled past x ∷ filter (λ (t : KeyedJob). is_live t.state) (map (titled past) xs)) (filter (λ (t : KeyedJob). is_live t.state) (map (titled past) xs))))) ≡ false
    by_test rest true = or_from (is_key k x) _ parts.0 rest
    by_test rest false = rest

-- the jobs of a history were opened
pub titled-opened : (past : List Event) (k : Key) (ks : List Key) (test : KeyedJob → Bool) (t : KeyedJob) → find test (map (titled past) ks) ≡ Some t → list_any (is_key t.key) ks ≡ true
titled-opened past k [] test t e = absurd (cc)
titled-opened past k (x ∷ xs) test t e = by_test (titled-opened past k xs test t) (test (titled past x)) e
  where
    by_test : (find test (map (titled past) xs) ≡ Some t → list_any (is_key t.key) xs ≡ true) → (b : Bool) → cond b (Some (titled past x)) (find test (map (titled past) xs)) ≡ Some t → list_any (is_key t.key) (x ∷ xs) ≡ true
    by_test rest true q =
        let same : titled past x ≡ t = cc in
        let key : t.key ≡ x = ap (λ (u : KeyedJob). u.key) (sym same) in
        ap (λ (b : Bool). b || list_any (is_key t.key) xs) ((is_key-Decides t.key x).1 key)
    by_test rest false q = by_rest (is_key t.key x) (rest q)
      where
        by_rest : (b : Bool) → list_any (is_key t.key) xs ≡ true → (b || list_any (is_key t.key) xs) ≡ true
        by_rest true r = refl
        by_rest false r = r

-- a key that is no name is not there
pub name-absent : (past : List Event) (j : Key) → IsOrderly past → was_named past j ≡ false → was_opened past j ≡ false
name-absent past j orderly none = false_from_ne_true (was_opened past j) (λ q. both_ways (was_named past j) none (orderly.known j q))

-- an event of a job that is there, under another key than that of a job that is not
other-away : (past : List Event) (j k : Key) (o : Own) → was_opened past k ≡ true → was_opened past j ≡ false → adds (is_key j k) (own j past) o ≡ own j past
other-away past j k o opened absent = ap (λ (b : Bool). adds b (own j past) o) (key-differs (keys_of past) j k absent opened)

-- the volume after it is entered
volume-set : (v : ℕ) (es : List Own) → volume_after (adds_volume v es) ≡ v
volume-set v es = by_test (v == volume_after es) refl
  where
    by_test : (b : Bool) → (v == volume_after es) ≡ b → volume_after (cond b es (es ++ Volume v ∷ [])) ≡ v
    by_test true q = sym ((Decides-eqb v (volume_after es)).0 q)
    by_test false q = fold_push volume_step 0 es (Volume v)

-- a key that is not among names with one more is another, and was not among them
pub with-absent : (j k : Key) (names : List Key) → list_any (is_key j) (with_key k names) ≡ false → (is_key j k ≡ false) × (list_any (is_key j) names ≡ false)
with-absent j k names h = by_test (list_any (is_key k) names) refl h
  where
    by_test : (b : Bool) → list_any (is_key k) names ≡ b → list_any (is_key j) (cond b names (names ++ k ∷ [])) ≡ false → (is_key j k ≡ false) × (list_any (is_key j) names ≡ false)
    by_test true q g = (key-differs names j k g q, g)
    by_test false q g =
        let parts = or_parts (list_any (is_key j) names) (list_any (is_key j) (k ∷ [])) (sym (list_any-append (is_key j) names (k ∷ [])) ∙ g) in
        ((or_parts (is_key j k) false parts.1).0, parts.0)

-- one that was among them stays, and so does the new one
with-there : (j k : Key) (names : List Key) → (is_key j k || list_any (is_key j) names) ≡ true → list_any (is_key j) (with_key k names) ≡ true
with-there j k names h = by_test (list_any (is_key j) (with_key k names)) refl
  where
    by_test : (b : Bool) → list_any (is_key j) (with_key k names) ≡ b → b ≡ true
    by_test true q = refl
    by_test false q = let parts = with-absent j k names q in sym (or_from (is_key j k) (list_any (is_key j) names) parts.0 parts.1) ∙ h

-- the lease of a worker is of a job that was opened
pub lease-opened : (past : List Event) (worker index : ℕ) (k : Key) → IsOrderly past → lease_of worker (leases past) ≡ Some (record { worker = worker; key = k; index = index }) → was_opened past k ≡ true
lease-opened past worker index k orderly e = find-holds (HasOpened past) (λ (l : LeaseOut). l.worker == worker) (leases past) (record { worker = worker; key = k; index = index }) orderly.leased e

-- a balancing gives no volume to a job that is not there
balance-away : (w : ℕ) (past : List Event) (shares : List Share) (j : Key) → Allowed w past (Balance shares) → was_opened past j ≡ false → volume_in j shares ≡ 0
balance-away w past shares j may absent =
    let unlisted : list_any (is_key j) (map key_of shares) ≡ false = ap (list_any (is_key j)) may.keys ∙ lives-absent past j (keys_of past) absent in
    volume_in-absent j shares unlisted

-- an exchange is of a job that is there
pub exchange-there : (w : ℕ) (past : List Event) (k : Key) → Allowed w past (Exchange k) → was_opened past k ≡ true
exchange-there w past k may =
    let opened : was_opened past may.0.key ≡ true = titled-opened past k (keys_of past) (λ (t : KeyedJob). is_exchange_due t.state) may.0 may.1.first in
    subst (λ (x : Key). was_opened past x ≡ true) may.1.key opened

-- an event that is allowed leaves a job that is not there then without a volume
event-away : (w : ℕ) (past : List Event) (e : Event) → Allowed w past e → IsOrderly past → (j : Key) → list_any (is_key j) (keys_step (keys_of past) e) ≡ false → volume_after (own_step j (own j past) e) ≡ 0
event-away w past (Open k ask) may orderly j absent =
    let parts = or_parts (was_opened past j) (list_any (is_key j) (k ∷ [])) (sym (list_any-append (is_key j) (keys_of past) (k ∷ [])) ∙ absent) in
    let other = or_parts (is_key j k) false parts.1 in
    ap (λ (b : Bool). volume_after (adds b (own j past) (Opened ask))) other.0 ∙ orderly.away j parts.0
event-away w past (Revise k number r) may orderly j absent = ap volume_after (other-away past j k (Revised r) (job_of-found past k may.0 may.1.job).opened absent) ∙ orderly.away j absent
event-away w past (Reask k weight) may orderly j absent = ap volume_after (other-away past j k (Reasked weight) (job_of-found past k may.0 may.1.job).opened absent) ∙ orderly.away j absent
event-away w past (Close k) may orderly j absent = ap volume_after (other-away past j k Closed (job_of-found past k may.0 may.1.job).opened absent) ∙ orderly.away j absent
event-away w past (Balance shares) may orderly j absent = ap (λ (v : ℕ). volume_after (adds_volume v (own j past))) (balance-away w past shares j may absent) ∙ volume-set 0 (own j past)
event-away w past (Start k index worker) may orderly j absent = ap volume_after (other-away past j k (Started index) (key-stands (keys_of past) may.0.job k may.1.key) absent) ∙ orderly.away j absent
event-away w past (Finish k index worker outcome) may orderly j absent = ap volume_after (other-away past j k (Finished index outcome) (lease-opened past worker index k orderly may) absent) ∙ orderly.away j absent
event-away w past (Exchange k) may orderly j absent = ap volume_after (other-away past j k Exchanged (exchange-there w past k may) absent) ∙ orderly.away j absent
event-away w past (Leave k) may orderly j absent = by_test (is_key j k) refl
  where
    by_test : (b : Bool) → is_key j k ≡ b → volume_after (cond b (adds_volume 0 (own j past)) (own j past)) ≡ 0
    by_test true q = volume-set 0 (own j past)
    by_test false q = orderly.away j (false_from_ne_true (was_opened past j) (λ h. both_ways (list_any (is_key j) (without k (keys_of past))) absent (filter-there j k (keys_of past) h (is_key-back j k q))))
event-away w past (Arrive k brought) may orderly j absent =
    let parts = or_parts (was_opened past j) (list_any (is_key j) (k ∷ [])) (sym (list_any-append (is_key j) (keys_of past) (k ∷ [])) ∙ absent) in
    let other = or_parts (is_key j k) false parts.1 in
    ap (λ (b : Bool). volume_after (cond b brought (own j past))) other.0 ∙ orderly.away j parts.0

-- and a key that is no name then without own events
other-unknown : (past : List Event) (j k : Key) (o : Own) → IsOrderly past → was_opened past k ≡ true → was_named past j ≡ false → adds (is_key j k) (own j past) o ≡ []
other-unknown past j k o orderly opened none = other-away past j k o opened (name-absent past j orderly none) ∙ orderly.unknown j none

event-unknown : (w : ℕ) (past : List Event) (e : Event) → Allowed w past e → IsOrderly past → (j : Key) → list_any (is_key j) (names_step (names_of past) e) ≡ false → own_step j (own j past) e ≡ []
event-unknown w past (Open k ask) may orderly j none =
    let parts = with-absent j k (names_of past) none in
    ap (λ (b : Bool). adds b (own j past) (Opened ask)) parts.0 ∙ orderly.unknown j parts.1
event-unknown w past (Revise k number r) may orderly j none = other-unknown past j k (Revised r) orderly (job_of-found past k may.0 may.1.job).opened none
event-unknown w past (Reask k weight) may orderly j none = other-unknown past j k (Reasked weight) orderly (job_of-found past k may.0 may.1.job).opened none
event-unknown w past (Close k) may orderly j none = other-unknown past j k Closed orderly (job_of-found past k may.0 may.1.job).opened none
event-unknown w past (Balance shares) may orderly j none = ap (λ (v : ℕ). adds_volume v (own j past)) (balance-away w past shares j may (name-absent past j orderly none)) ∙ ap (adds_volume 0) (orderly.unknown j none)
event-unknown w past (Start k index worker) may orderly j none = other-unknown past j k (Started index) orderly (key-stands (keys_of past) may.0.job k may.1.key) none
event-unknown w past (Finish k index worker outcome) may orderly j none = other-unknown past j k (Finished index outcome) orderly (lease-opened past worker index k orderly may) none
event-unknown w past (Exchange k) may orderly j none = other-unknown past j k Exchanged orderly (exchange-there w past k may) none
event-unknown w past (Leave k) may orderly j none =
    ap (λ (b : Bool). cond b (adds_volume 0 (own j past)) (own j past)) (key-differs (keys_of past) j k (name-absent past j orderly none) (job_of-found past k may.0 may.1.job).opened) ∙ orderly.unknown j none
event-unknown w past (Arrive k brought) may orderly j none =
    let parts = with-absent j k (names_of past) none in
    ap (λ (b : Bool). cond b brought (own j past)) parts.0 ∙ orderly.unknown j parts.1

came-known : (past : List Event) (k : Key) → IsOrderly past → (j : Key) → list_any (is_key j) (keys_of past ++ k ∷ []) ≡ true → list_any (is_key j) (with_key k (names_of past)) ≡ true
came-known past k orderly j h = by_test (was_opened past j) (is_key j k) refl refl
  where
    by_test : (a b : Bool) → was_opened past j ≡ a → is_key j k ≡ b → list_any (is_key j) (with_key k (names_of past)) ≡ true
    by_test true b p q = with-there j k (names_of past) (or_right (is_key j k) (was_named past j) (orderly.known j p))
    by_test false true p q = with-there j k (names_of past) (or_left (is_key j k) (was_named past j) q)
    by_test false false p q = absurd (both_ways (list_any (is_key j) (keys_of past ++ k ∷ [])) (list_any-append (is_key j) (keys_of past) (k ∷ []) ∙ or_from (was_opened past j) (list_any (is_key j) (k ∷ [])) p (or_from (is_key j k) false q refl)) h)

-- a key that is there then is a name
event-known : (past : List Event) (e : Event) → IsOrderly past → (j : Key) → list_any (is_key j) (keys_step (keys_of past) e) ≡ true → list_any (is_key j) (names_step (names_of past) e) ≡ true
event-known past (Open k ask) orderly j h = came-known past k orderly j h
event-known past (Revise k number r) orderly j h = orderly.known j h
event-known past (Reask k weight) orderly j h = orderly.known j h
event-known past (Close k) orderly j h = orderly.known j h
event-known past (Balance shares) orderly j h = orderly.known j h
event-known past (Start k index worker) orderly j h = orderly.known j h
event-known past (Finish k index worker outcome) orderly j h = orderly.known j h
event-known past (Exchange k) orderly j h = orderly.known j h
event-known past (Leave k) orderly j h = orderly.known j (by_test (was_opened past j) refl)
  where
    by_test : (b : Bool) → was_opened past j ≡ b → b ≡ true
    by_test true q = refl
    by_test false q = absurd (both_ways (list_any (is_key j) (without k (keys_of past))) (filter-absent j k (keys_of past) q) h)
event-known past (Arrive k brought) orderly j h = came-known past k orderly j h

-- the jobs of the starts that are out are there
leave-leased : (past : List Event) (k : Key) (ls : List LeaseOut) → list_any (λ (l : LeaseOut). is_key k l.key) ls ≡ false → All (HasOpened past) ls → All (λ (l : LeaseOut). list_any (is_key l.key) (without k (keys_of past)) ≡ true) ls
leave-leased past k [] home h = All-nil (λ (l : LeaseOut). list_any (is_key l.key) (without k (keys_of past)) ≡ true)
leave-leased past k (l ∷ ls) home h =
    let parts = or_parts (is_key k l.key) (list_any (λ (x : LeaseOut). is_key k x.key) ls) home in
    All-cons (λ (x : LeaseOut). list_any (is_key x.key) (without k (keys_of past)) ≡ true) l ls (filter-there l.key k (keys_of past) (All-head (HasOpened past) l ls h) parts.0) (leave-leased past k ls parts.1 (All-tail (HasOpened past) l ls h))

abbrev ThereAfter : List Event → Event → LeaseOut → Type 0
ThereAfter past e l = list_any (is_key l.key) (keys_step (keys_of past) e) ≡ true

stay-leased : (past : List Event) (e : Event) → ((k : Key) → leaves k e ≡ false) → IsOrderly past → All (ThereAfter past e) (leases past)
stay-leased past e stays orderly = All-weaker (HasOpened past) (ThereAfter past e) (λ l h. keys-stay l.key (keys_of past) e (stays l.key) h) (leases past) orderly.leased

event-leased : (w : ℕ) (past : List Event) (e : Event) → Allowed w past e → IsOrderly past → All (ThereAfter past e) (leases_step (leases past) e)
event-leased w past (Open k ask) may orderly = stay-leased past (Open k ask) (λ j. refl) orderly
event-leased w past (Revise k number r) may orderly = stay-leased past (Revise k number r) (λ j. refl) orderly
event-leased w past (Reask k weight) may orderly = stay-leased past (Reask k weight) (λ j. refl) orderly
event-leased w past (Close k) may orderly = stay-leased past (Close k) (λ j. refl) orderly
event-leased w past (Balance shares) may orderly = stay-leased past (Balance shares) (λ j. refl) orderly
event-leased w past (Start k index worker) may orderly = All-push (ThereAfter past (Start k index worker)) (leases past) (record { worker = worker; key = k; index = index }) (stay-leased past (Start k index worker) (λ j. refl) orderly) (key-stands (keys_of past) may.0.job k may.1.key)
event-leased w past (Finish k index worker outcome) may orderly = All-filter (λ l. nat_lt l.worker worker || nat_lt worker l.worker) (ThereAfter past (Finish k index worker outcome)) (leases past) (stay-leased past (Finish k index worker outcome) (λ j. refl) orderly)
event-leased w past (Exchange k) may orderly = stay-leased past (Exchange k) (λ j. refl) orderly
event-leased w past (Leave k) may orderly = leave-leased past k (leases past) may.1.home orderly.leased
event-leased w past (Arrive k brought) may orderly = stay-leased past (Arrive k brought) (λ j. refl) orderly

-- a job that is opened is not there
pub open-absent : (past : List Event) (k : Key) → IsOrderly past → was_named past k ≡ false → was_opened past k ≡ false
open-absent past k orderly none = name-absent past k orderly none

event-apart : (w : ℕ) (past : List Event) (e : Event) → Allowed w past e → IsOrderly past → AreApart (keys_step (keys_of past) e)
event-apart w past (Open k ask) may orderly = apart-push (keys_of past) k orderly.apart (open-absent past k orderly may.fresh)
event-apart w past (Revise k number r) may orderly = orderly.apart
event-apart w past (Reask k weight) may orderly = orderly.apart
event-apart w past (Close k) may orderly = orderly.apart
event-apart w past (Balance shares) may orderly = orderly.apart
event-apart w past (Start k index worker) may orderly = orderly.apart
event-apart w past (Finish k index worker outcome) may orderly = orderly.apart
event-apart w past (Exchange k) may orderly = orderly.apart
event-apart w past (Leave k) may orderly = apart-filter k (keys_of past) orderly.apart
event-apart w past (Arrive k brought) may orderly = apart-push (keys_of past) k orderly.apart (job_of-absent past k may.absent)

pub orderly-push : (w : ℕ) (past : List Event) (e : Event) → Allowed w past e → IsOrderly past → IsOrderly (past ++ e ∷ [])
orderly-push w past e may orderly = record {
  apart = subst AreApart (sym (keys-push past e)) (event-apart w past e may orderly);
  known = λ k h. ap (list_any (is_key k)) (names-push past e) ∙ event-known past e orderly k (ap (list_any (is_key k)) (sym (keys-push past e)) ∙ h);
  unknown = λ k none. own-push k past e ∙ event-unknown w past e may orderly k (ap (list_any (is_key k)) (sym (names-push past e)) ∙ none);
  away = λ k absent. ap volume_after (own-push k past e) ∙ event-away w past e may orderly k (ap (list_any (is_key k)) (sym (keys-push past e)) ∙ absent);
  leased = subst (All (HasOpened (past ++ e ∷ []))) (sym (leases-push past e)) (All-weaker (ThereAfter past e) (HasOpened (past ++ e ∷ [])) (λ l h. ap (list_any (is_key l.key)) (keys-push past e) ∙ h) (leases_step (leases past) e) (event-leased w past e may orderly));
}

-- the history without events is orderly
pub empty-orderly : IsOrderly []
empty-orderly = record { apart = tt; known = λ k h. absurd (cc); unknown = λ k none. refl; away = λ k absent. refl; leased = All-nil (HasOpened []) }

-- a legal history is orderly
pub legal-orderly : (w : ℕ) (h : List Event) → Legal w h → IsOrderly h
legal-orderly w h legal = legal_from-keeps w IsOrderly (orderly-push w) [] h legal empty-orderly
