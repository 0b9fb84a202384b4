-- What a legal history is written down as is in form.
use Rattle.std.proofs.Common.{◌≡◌, ℕ, ◌+◌, ◌≤◌, ◌<◌, ◌||◌, Bool, true, false, cond, List, [], ◌∷◌, ◌++◌, length, map, filter, not, min, refl, sym, ◌∙◌, subst, arith}
use Rattle.std.specs.Prelude.{All, sum_by}
use Rattle.std.specs.List.{list_any, AllByRecursion}
use Rattle.std.proofs.lemmas.Bool.{or_parts}
use Rattle.std.proofs.lemmas.List.Sums.{sum_by-cons, sum-map}
use Rattle.std.proofs.lemmas.List.Elements.{All-nil, All-cons, All-head, All-tail, All-push, All-filter}
use Rattle.std.proofs.lemmas.List.{length-map}
use Rattle.mal_base.specs.Asks.{Terms}
use Rattle.mal_history.specs.declared.event.Share.{Share}
use Rattle.mal_history.specs.Formed.{IsEvent, IsVolume}
use Rattle.mal_history.specs.Grammar.{AreNames}
use Rattle.mal_history.specs.Reading.{most_events}
use Rattle.spec_job.specs.SoloMachine.{is_live, solo}
use Rattle.spec_job.specs.KeyedJob.{Key}
use Rattle.spec_job.proofs.LeftLemmas.{solo-tidy}
use Rattle.spec_hall.specs.Events.{Event, Open, Revise, Reask, Close, Balance, Start, Finish, Exchange, Leave, Arrive, bare, key_of, moves}
use Rattle.spec_hall.specs.Formed.{LegalIsFormed}
use Rattle.spec_hall.specs.Leases.{IsWorker}
use Rattle.spec_hall.specs.Legal.{Allowed, Legal, LegalFrom, MayBalance}
use Rattle.spec_hall.specs.Own.{is_key, own}
use Rattle.spec_hall.specs.States.{keys_of, keys_step, live_asks, live_of, lives, states, titled}
use Rattle.spec_hall.proofs.KeyLemmas.{is_key-Decides, key-stands}
use Rattle.spec_hall.proofs.LeasesLemmas.{lease-out, lease-worker, start-free, within-out}
use Rattle.spec_hall.proofs.OrderlyLemmas.{exchange-there, lease-opened, legal-orderly}
use Rattle.spec_hall.proofs.PushLemmas.{Legal-push, keys-push}
use Rattle.spec_hall.proofs.StatesLemmas.{job_of-found, legal_from-keeps}

-- the names of a key are names
abbrev HasNames : Key → Type 0
HasNames k = AreNames k.tenant k.job

event-named : (w : ℕ) (past : List Event) (e : Event) → Allowed w past e → All HasNames (keys_of past) → All HasNames (keys_step (keys_of past) e)
event-named w past (Open k ask) may named = All-push HasNames (keys_of past) k named (may.tenant, may.job)
event-named w past (Revise k number r) may named = named
event-named w past (Reask k weight) may named = named
event-named w past (Close k) may named = named
event-named w past (Balance shares) may named = named
event-named w past (Start k index worker) may named = named
event-named w past (Finish k index worker outcome) may named = named
event-named w past (Exchange k) may named = named
event-named w past (Leave k) may named = All-filter (λ j. not (is_key k j)) HasNames (keys_of past) named
event-named w past (Arrive k brought) may named = All-push HasNames (keys_of past) k named (may.tenant, may.job)

-- the keys of a legal history are names
legal-named : (w : ℕ) (h : List Event) → Legal w h → All HasNames (keys_of h)
legal-named w h legal = legal_from-keeps w (λ past. All HasNames (keys_of past)) (λ past e may named. subst (All HasNames) (sym (keys-push past e)) (event-named w past e may named)) [] h legal (All-nil HasNames)

key-named : (k : Key) (ks : List Key) → All HasNames ks → list_any (is_key k) ks ≡ true → HasNames k
key-named k [] all e = absurd (cc)
key-named k (x ∷ xs) all e = by_test (key-named k xs (All-tail HasNames x xs all)) (is_key k x) refl e
  where
    by_test : (list_any (is_key k) xs ≡ true → HasNames k) → (b : Bool) → is_key k x ≡ b → (b || list_any (is_key k) xs) ≡ true → HasNames k
    by_test rest true q f = subst HasNames (sym ((is_key-Decides k x).0 q)) (All-head HasNames x xs all)
    by_test rest false q f = rest f

-- the keys of live jobs are names
live-named : (past : List Event) (ks : List Key) → All HasNames ks → All HasNames (map (λ l. l.key) (lives (map (titled past) ks)))
live-named past [] all = All-nil HasNames
live-named past (k ∷ ks) all = by_test (is_live (solo (own k past))) (live-named past ks (All-tail HasNames k ks all))
  where
    by_test : (b : Bool) → All HasNames (map (λ l. l.key) (lives (map (titled past) ks))) → All HasNames (map (λ l. l.key) (map live_of (cond b (titled past k ∷ filter (λ t. is_live t.state) (map (titled past) ks)) (filter (λ t. is_live t.state) (map (titled past) ks)))))
    by_test true rest = All-cons HasNames k _ (All-head HasNames k ks all) rest
    by_test false rest = rest

-- volumes under names, 64 in all at most
shares-formed : (shares : List Share) → All HasNames (map key_of shares) → sum_by (λ (s : Share). s.volume) shares ≤ 64 → AllByRecursion IsVolume shares
shares-formed [] all few = tt
shares-formed (s ∷ shares) all few =
    let cut : sum_by (λ (x : Share). x.volume) (s ∷ shares) ≡ s.volume + sum_by (λ (x : Share). x.volume) shares = sum_by-cons (λ (x : Share). x.volume) s shares in (
      record { names = All-head HasNames (key_of s) (map key_of shares) all; bound = omega (arith, few, cut) },
      shares-formed shares (All-tail HasNames (key_of s) (map key_of shares) all) (omega (arith, few, cut)),
    )

min-low : (a b : ℕ) → min a b ≤ a
min-low a b = omega arith

balance-formed : (w : ℕ) (past : List Event) (shares : List Share) → w ≤ 64 → All HasNames (keys_of past) → MayBalance w past shares → AllByRecursion IsVolume shares
balance-formed w past shares bound named may =
    let all : All HasNames (map key_of shares) = subst (All HasNames) (sym may.keys) (live-named past (keys_of past) named) in
    let total : sum_by (λ (s : Share). s.volume) shares ≡ min w (sum_by (λ (a : Terms). a.demand) (live_asks (states past))) = sym (sum-map (λ (s : Share). s.volume) shares) ∙ may.fair.total in
    let low : min w (sum_by (λ (a : Terms). a.demand) (live_asks (states past))) ≤ w = min-low w (sum_by (λ (a : Terms). a.demand) (live_asks (states past))) in
    shares-formed shares all (omega (arith, total, low, bound))

-- an event that is allowed and moves no job is written down in form
event-formed : (w : ℕ) (past : List Event) (e : Event) → 1 ≤ w → w ≤ 64 → Legal w past → Allowed w past e → moves e ≡ false → IsEvent w (bare e)
event-formed w past (Open k ask) some bound legal may still = ((may.tenant, may.job), may.asked)
event-formed w past (Revise k number r) some bound legal may still =
    (key-named k (keys_of past) (legal-named w past legal) (job_of-found past k may.0 may.1.job).opened, omega (arith, may.1.next), may.1.room)
event-formed w past (Reask k weight) some bound legal may still =
    (key-named k (keys_of past) (legal-named w past legal) (job_of-found past k may.0 may.1.job).opened, may.1.weighed)
event-formed w past (Close k) some bound legal may still = key-named k (keys_of past) (legal-named w past legal) (job_of-found past k may.0 may.1.job).opened
event-formed w past (Balance shares) some bound legal may still = balance-formed w past shares bound (legal-named w past legal) may
event-formed w past (Start k index worker) some bound legal may still = (
  key-named k (keys_of past) (legal-named w past legal) (key-stands (keys_of past) may.0.job k may.1.key),
  record { index_bound = (start-free w past k index worker some bound legal may).low; some_worker = may.1.some_worker; worker_bound = may.1.worker_bound },
)
event-formed w past (Finish k index worker outcome) some bound legal may still =
    let is : IsWorker w worker = (lease-worker w past worker (record { worker = worker; key = k; index = index }) some bound legal may).1 in
    let within : index < length (solo (own k past)).places = within-out (solo (own k past)).places index (lease-out w past k index worker some bound legal may) in
    let count : length (solo (own k past)).places ≡ 64 = (solo-tidy (own k past)).places.count in (
      key-named k (keys_of past) (legal-named w past legal) (lease-opened past worker index k (legal-orderly w past legal) may),
      record { index_bound = omega (arith, within, count); some_worker = is.low; worker_bound = is.high },
    )
event-formed w past (Exchange k) some bound legal may still = key-named k (keys_of past) (legal-named w past legal) (exchange-there w past k may)
event-formed w past (Leave k) some bound legal may still = absurd (cc)
event-formed w past (Arrive k brought) some bound legal may still = absurd (cc)

events-formed : (w : ℕ) (past es : List Event) → 1 ≤ w → w ≤ 64 → Legal w past → LegalFrom w past es → list_any moves es ≡ false → AllByRecursion (IsEvent w) (map bare es)
events-formed w past [] some bound legal from still = tt
events-formed w past (e ∷ es) some bound legal from still =
    let parts = or_parts (moves e) (list_any moves es) still in
    (event-formed w past e some bound legal from.0 parts.0, events-formed w (past ++ e ∷ []) es some bound (Legal-push w past e legal from.0) from.1 parts.1)

pub legal-is_formed : LegalIsFormed
legal-is_formed w h some bound legal still few = record {
  some = some;
  bound = bound;
  few = subst (λ (n : ℕ). n ≤ most_events) (sym (length-map h bare)) few;
  formed = events-formed w [] h some bound tt legal still;
}
