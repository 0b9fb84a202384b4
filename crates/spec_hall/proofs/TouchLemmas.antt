use Rattle.std.proofs.Common.{◌≡◌, ℕ, zero, suc, Bool, true, false, cond, ◌==◌, List, [], ◌∷◌, ◌++◌, map, filter, not, Option, slice_get, slice_set, Some, refl, sym, ◌∙◌, ap, subst}
use Rattle.std.specs.List.{list_any}
use Rattle.std.proofs.lemmas.Bool.{or_parts}
use Rattle.std.proofs.lemmas.Bool.Decides.{Decides-eqb}
use Rattle.std.proofs.lemmas.List.{map-append}
use Rattle.mal_base.specs.Asks.{Terms, Weighed}
use Rattle.mal_base.specs.declared.verdict.Outcome.{Outcome}
use Rattle.mal_history.specs.declared.event.Share.{Share}
use Rattle.mal_revision.specs.Posted.{Posted}
use Rattle.spec_job.specs.SoloMachine.{Own, Opened, Revised, Reasked, Closed, Volume, Started, Finished, Exchanged, SoloMachine, solo, solo_step, unopened}
use Rattle.spec_job.specs.KeyedJob.{Key, KeyedJob, stepped}
use Rattle.spec_hall.specs.Events.{Event, Open, Revise, Reask, Close, Balance, Start, Finish, Exchange, Leave, Arrive}
use Rattle.spec_hall.specs.Own.{own, own_step, adds, adds_volume, is_key, volume_in, volume_after}
use Rattle.spec_hall.specs.States.{Live, keys_of, keys_step, last_after, states, titled}
use Rattle.spec_hall.proofs.KeyLemmas.{AreApart, is_key-back, is_key-same, key-differs, key-stands}
use Rattle.spec_hall.proofs.PushLemmas.{own-push, solo-push, keys-push}
use Rattle.spec_hall.proofs.VolumeLemmas.{solo-volume}

-- an event of one job: it joins that job's own events alone, opens none and is no balancing
pub record Touches (e : Event) (k : Key) (o : Own) : Type 0 where
  pub owns : (j : Key) (es : List Own) → own_step j es e ≡ adds (is_key j k) es o
  pub keys : (ks : List Key) → keys_step ks e ≡ ks
  pub quiet : (past : List Event) (last : Option (List Live)) → last_after past last e ≡ last

pub revise-touches : (k : Key) (number : ℕ) (r : Posted) → Touches (Revise k number r) k (Revised r)
revise-touches k number r = record { owns = λ j es. refl; keys = λ ks. refl; quiet = λ past last. refl }

pub reask-touches : (k : Key) (weight : Weighed) → Touches (Reask k weight) k (Reasked weight)
reask-touches k weight = record { owns = λ j es. refl; keys = λ ks. refl; quiet = λ past last. refl }

pub close-touches : (k : Key) → Touches (Close k) k Closed
close-touches k = record { owns = λ j es. refl; keys = λ ks. refl; quiet = λ past last. refl }

pub start-touches : (k : Key) (index worker : ℕ) → Touches (Start k index worker) k (Started index)
start-touches k index worker = record { owns = λ j es. refl; keys = λ ks. refl; quiet = λ past last. refl }

pub finish-touches : (k : Key) (index worker : ℕ) (outcome : Outcome) → Touches (Finish k index worker outcome) k (Finished index outcome)
finish-touches k index worker outcome = record { owns = λ j es. refl; keys = λ ks. refl; quiet = λ past last. refl }

pub exchange-touches : (k : Key) → Touches (Exchange k) k Exchanged
exchange-touches k = record { owns = λ j es. refl; keys = λ ks. refl; quiet = λ past last. refl }

-- the job that it is of takes a step
titled-mine : (h : List Event) (e : Event) (k : Key) (o : Own) → Touches e k o → titled (h ++ e ∷ []) k ≡ stepped (titled h k) o
titled-mine h e k o touches =
    let mine : own k (h ++ e ∷ []) ≡ own k h ++ o ∷ [] = own-push k h e ∙ (touches.owns k (own k h) ∙ ap (λ (b : Bool). adds b (own k h) o) (is_key-same k)) in
    ap (λ (s : SoloMachine). let t : KeyedJob = record { key = k; state = s } in t) (ap solo mine ∙ solo-push (own k h) o)

-- all others stay
titled-other : (h : List Event) (e : Event) (k : Key) (o : Own) → Touches e k o → (j : Key) → is_key j k ≡ false → titled (h ++ e ∷ []) j ≡ titled h j
titled-other h e k o touches j other =
    let same : own j (h ++ e ∷ []) ≡ own j h = own-push j h e ∙ (touches.owns j (own j h) ∙ ap (λ (b : Bool). adds b (own j h) o) other) in
    ap (λ (es : List Own). let t : KeyedJob = record { key = j; state = solo es } in t) same

-- two functions that agree but at one key, over keys among which that is not
map-absent : (f g : Key → KeyedJob) (k : Key) (ks : List Key) → list_any (is_key k) ks ≡ false → ((j : Key) → is_key j k ≡ false → g j ≡ f j) → map g ks ≡ map f ks
map-absent f g k [] absent same = refl
map-absent f g k (x ∷ xs) absent same =
    let parts = or_parts (is_key k x) (list_any (is_key k) xs) absent in
    ap (λ (t : KeyedJob). t ∷ map g xs) (same x (is_key-back k x parts.0)) ∙ ap (λ (ts : List KeyedJob). f x ∷ ts) (map-absent f g k xs parts.1 same)

-- and over keys among which it stands once
map-touch : (f g : Key → KeyedJob) (k : Key) (ks : List Key) (n : ℕ) → AreApart ks → slice_get ks n ≡ Some k → ((j : Key) → is_key j k ≡ false → g j ≡ f j) → map g ks ≡ slice_set (map f ks) n (g k)
map-touch f g k [] n apart at same = absurd (cc)
map-touch f g k (x ∷ xs) zero apart at same =
    let here : x ≡ k = cc in
    let absent : list_any (is_key k) xs ≡ false = subst (λ (y : Key). list_any (is_key y) xs ≡ false) here apart.0 in
    ap (λ (y : Key). g y ∷ map g xs) here ∙ ap (λ (ts : List KeyedJob). g k ∷ ts) (map-absent f g k xs absent same)
map-touch f g k (x ∷ xs) (suc n) apart at same =
    let other : is_key x k ≡ false = key-differs xs x k apart.0 (key-stands xs n k at) in
    ap (λ (t : KeyedJob). t ∷ map g xs) (same x other) ∙ ap (λ (ts : List KeyedJob). f x ∷ ts) (map-touch f g k xs n apart.1 at same)

-- an event of one job moves that job alone
pub states-touch : (h : List Event) (e : Event) (k : Key) (o : Own) (n : ℕ) → Touches e k o → AreApart (keys_of h) → slice_get (keys_of h) n ≡ Some k → states (h ++ e ∷ []) ≡ slice_set (states h) n (stepped (titled h k) o)
states-touch h e k o n touches apart at =
    ap (map (titled (h ++ e ∷ []))) (keys-push h e ∙ touches.keys (keys_of h))
    ∙ (map-touch (titled h) (titled (h ++ e ∷ [])) k (keys_of h) n apart at (titled-other h e k o touches)
    ∙ ap (slice_set (states h) n) (titled-mine h e k o touches))

-- a job that is opened comes after the others
pub states-open : (h : List Event) (k : Key) (ask : Terms) → list_any (is_key k) (keys_of h) ≡ false → own k h ≡ [] → states (h ++ Open k ask ∷ []) ≡ states h ++ record { key = k; state = solo_step unopened (Opened ask) } ∷ []
states-open h k ask fresh none =
    let first : own k (h ++ Open k ask ∷ []) ≡ Opened ask ∷ [] = own-push k h (Open k ask) ∙ (ap (λ (b : Bool). adds b (own k h) (Opened ask)) (is_key-same k) ∙ ap (λ (es : List Own). es ++ Opened ask ∷ []) none) in
    let new : titled (h ++ Open k ask ∷ []) k ≡ record { key = k; state = solo_step unopened (Opened ask) } = ap (λ (es : List Own). let t : KeyedJob = record { key = k; state = solo es } in t) first in
    ap (map (titled (h ++ Open k ask ∷ []))) (keys-push h (Open k ask))
    ∙ (map-append (titled (h ++ Open k ask ∷ [])) (keys_of h) (k ∷ [])
    ∙ (ap (λ (ts : List KeyedJob). ts ++ titled (h ++ Open k ask ∷ []) k ∷ []) (map-absent (titled h) (titled (h ++ Open k ask ∷ [])) k (keys_of h) fresh others)
    ∙ ap (λ (t : KeyedJob). states h ++ t ∷ []) new))
  where
    others : (j : Key) → is_key j k ≡ false → titled (h ++ Open k ask ∷ []) j ≡ titled h j
    others j other =
        let same : own j (h ++ Open k ask ∷ []) ≡ own j h = own-push j h (Open k ask) ∙ ap (λ (b : Bool). adds b (own j h) (Opened ask)) other in
        ap (λ (es : List Own). let t : KeyedJob = record { key = j; state = solo es } in t) same

-- a job with the volume that a balancing gives it
abbrev pub given : List Share → KeyedJob → KeyedJob
given shares t = stepped t (Volume (volume_in t.key shares))

titled-given : (h : List Event) (shares : List Share) (k : Key) → titled (h ++ Balance shares ∷ []) k ≡ given shares (titled h k)
titled-given h shares k = ap (λ (s : SoloMachine). let t : KeyedJob = record { key = k; state = s } in t) (ap solo (own-push k h (Balance shares)) ∙ by_test (v == volume_after es) refl)
  where
    es : List Own
    es = own k h

    v : ℕ
    v = volume_in k shares

    by_test : (b : Bool) → (v == volume_after es) ≡ b → solo (cond b es (es ++ Volume v ∷ [])) ≡ solo_step (solo es) (Volume v)
    by_test true e =
        let same : v ≡ (solo es).volume = (Decides-eqb v (volume_after es)).0 e ∙ sym (solo-volume es) in
        sym (ap (λ (w : ℕ). solo_step (solo es) (Volume w)) same)
    by_test false e = solo-push es (Volume v)

-- a balancing gives each job its volume
pub states-balance : (h : List Event) (shares : List Share) → states (h ++ Balance shares ∷ []) ≡ map (given shares) (states h)
states-balance h shares = ap (map (titled (h ++ Balance shares ∷ []))) (keys-push h (Balance shares)) ∙ over (keys_of h)
  where
    over : (ks : List Key) → map (titled (h ++ Balance shares ∷ [])) ks ≡ map (given shares) (map (titled h) ks)
    over [] = refl
    over (k ∷ ks) = ap (λ (t : KeyedJob). t ∷ map (titled (h ++ Balance shares ∷ [])) ks) (titled-given h shares k) ∙ ap (λ (ts : List KeyedJob). given shares (titled h k) ∷ ts) (over ks)

-- the jobs without that of a key
abbrev pub jobs_without : Key → List KeyedJob → List KeyedJob
jobs_without k jobs = filter (λ t. not (is_key k t.key)) jobs

-- a job that leaves is taken out of the others
pub states-leave : (h : List Event) (k : Key) → states (h ++ Leave k ∷ []) ≡ jobs_without k (states h)
states-leave h k = ap (map (titled (h ++ Leave k ∷ []))) (keys-push h (Leave k)) ∙ over (keys_of h)
  where
    other : (j : Key) → is_key k j ≡ false → titled (h ++ Leave k ∷ []) j ≡ titled h j
    other j q =
        let same : own j (h ++ Leave k ∷ []) ≡ own j h = own-push j h (Leave k) ∙ ap (λ (b : Bool). cond b (adds_volume 0 (own j h)) (own j h)) (is_key-back k j q) in
        ap (λ (es : List Own). let t : KeyedJob = record { key = j; state = solo es } in t) same

    over : (ks : List Key) → map (titled (h ++ Leave k ∷ [])) (filter (λ j. not (is_key k j)) ks) ≡ jobs_without k (map (titled h) ks)
    over [] = refl
    over (x ∷ xs) = by_test (over xs) (is_key k x) refl
      where
        by_test : map (titled (h ++ Leave k ∷ [])) (filter (λ j. not (is_key k j)) xs) ≡ jobs_without k (map (titled h) xs) → (b : Bool) → is_key k x ≡ b → map (titled (h ++ Leave k ∷ [])) (cond (not b) (x ∷ filter (λ j. not (is_key k j)) xs) (filter (λ j. not (is_key k j)) xs)) ≡ cond (not b) (titled h x ∷ jobs_without k (map (titled h) xs)) (jobs_without k (map (titled h) xs))
        by_test rest true q = rest
        by_test rest false q = ap (λ (t : KeyedJob). t ∷ map (titled (h ++ Leave k ∷ [])) (filter (λ j. not (is_key k j)) xs)) (other x q) ∙ ap (λ (ts : List KeyedJob). titled h x ∷ ts) rest

-- a job that arrives comes after the others, as its machine run alone on what it brings
pub states-arrive : (h : List Event) (k : Key) (brought : List Own) → list_any (is_key k) (keys_of h) ≡ false → states (h ++ Arrive k brought ∷ []) ≡ states h ++ record { key = k; state = solo brought } ∷ []
states-arrive h k brought absent =
    let first : own k (h ++ Arrive k brought ∷ []) ≡ brought = own-push k h (Arrive k brought) ∙ ap (λ (b : Bool). cond b brought (own k h)) (is_key-same k) in
    let new : titled (h ++ Arrive k brought ∷ []) k ≡ record { key = k; state = solo brought } = ap (λ (es : List Own). let t : KeyedJob = record { key = k; state = solo es } in t) first in
    ap (map (titled (h ++ Arrive k brought ∷ []))) (keys-push h (Arrive k brought))
    ∙ (map-append (titled (h ++ Arrive k brought ∷ [])) (keys_of h) (k ∷ [])
    ∙ (ap (λ (ts : List KeyedJob). ts ++ titled (h ++ Arrive k brought ∷ []) k ∷ []) (map-absent (titled h) (titled (h ++ Arrive k brought ∷ [])) k (keys_of h) absent others)
    ∙ ap (λ (t : KeyedJob). states h ++ t ∷ []) new))
  where
    others : (j : Key) → is_key j k ≡ false → titled (h ++ Arrive k brought ∷ []) j ≡ titled h j
    others j other =
        let same : own j (h ++ Arrive k brought ∷ []) ≡ own j h = own-push j h (Arrive k brought) ∙ ap (λ (b : Bool). cond b brought (own j h)) other in
        ap (λ (es : List Own). let t : KeyedJob = record { key = j; state = solo es } in t) same
