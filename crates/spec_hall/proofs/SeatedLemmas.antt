use Rattle.std.proofs.Common.{◌≡◌, ℕ, suc, ◌≤◌, Bool, true, false, ◌||◌, List, [], ◌∷◌, ◌++◌, map, slice_get, slice_set, Some, refl, sym, ◌∙◌, ap, subst}
use Rattle.std.specs.List.{list_any}
use Rattle.mal_history.specs.declared.event.Share.{Share}
use Rattle.spec_job.specs.SoloMachine.{Own, Revised, Reasked, Closed, Started, Finished, Exchanged, SoloMachine, is_exchange_due, solo_step}
use Rattle.spec_job.specs.KeyedJob.{Key, KeyedJob}
use Rattle.spec_job.specs.Viewed.{and_own}
use Rattle.spec_job.proofs.StepLemmas.{finish-keeps}
use Rattle.spec_hall.specs.Events.{Event, Open, Revise, Reask, Close, Balance, Start, Finish, Exchange, Leave, Arrive}
use Rattle.spec_hall.specs.Own.{is_key}
use Rattle.spec_hall.specs.States.{keys_of, lives, live_asks}
use Rattle.spec_hall.specs.Legal.{Allowed, Legal, MayBalance}
use Rattle.spec_balance.specs.Fair.{IsFair}
use Rattle.spec_hall.specs.Seats.{Seat, IsSeated, jobs_in, is_balancing_due, arrived_seat, opened_seat, seats_without, shares_by, balanced_by}
use Rattle.spec_hall.proofs.KeyLemmas.{is_key-Decides, key-stands}
use Rattle.spec_hall.proofs.VolumeLemmas.{revise-keeps}
use Rattle.spec_hall.proofs.StatesLemmas.{job_of-found, legal_from-keeps}
use Rattle.spec_hall.proofs.OrderlyLemmas.{legal-orderly, lease-opened, titled-opened}
use Rattle.spec_hall.proofs.TouchLemmas.{Touches, revise-touches, reask-touches, close-touches, start-touches, finish-touches, exchange-touches}
use Rattle.spec_hall.proofs.SeatLemmas.{reseated, seat_keys, seated-keys, seated-none, seated-arrive, seated-leave, seated-open, seats-touch}
use Rattle.spec_hall.proofs.DueLemmas.{live_keys, balancing-calm}
use Rattle.spec_hall.proofs.BalanceLemmas.{shares-keys, shares-fair, seated-balance}
use Rattle.spec_hall.proofs.DrivenLemmas.{shares-same}

-- the seat of a job that was opened
pub record SeatOf (ss : List Seat) (k : Key) : Type 0 where
  pub at : ℕ
  pub seat : Seat
  pub is : slice_get ss at ≡ Some seat
  pub key : seat.job.titled.key ≡ k

key-seat : (k : Key) (ss : List Seat) → list_any (is_key k) (seat_keys ss) ≡ true → SeatOf ss k
key-seat k [] e = absurd (cc)
key-seat k (x ∷ xs) e = by_test (is_key k x.job.titled.key) refl e (key-seat k xs)
  where
    by_test : (b : Bool) → is_key k x.job.titled.key ≡ b → (b || list_any (is_key k) (seat_keys xs)) ≡ true → (list_any (is_key k) (seat_keys xs) ≡ true → SeatOf xs k) → SeatOf (x ∷ xs) k
    by_test true q f rest = record { at = 0; seat = x; is = refl; key = sym ((is_key-Decides k x.job.titled.key).0 q) }
    by_test false q f rest = let r = rest f in record { at = suc r.at; seat = r.seat; is = r.is; key = r.key }

pub opened-seat : (w : ℕ) (h : List Event) (ss : List Seat) (k : Key) → IsSeated w h ss → list_any (is_key k) (keys_of h) ≡ true → SeatOf ss k
opened-seat w h ss k seated opened = key-seat k ss (ap (list_any (is_key k)) (sym (seated-keys h ss seated.jobs)) ∙ opened)

-- the jobs of a history have seats
pub record HasSeats (w : ℕ) (h : List Event) : Type 0 where
  pub seats : List Seat
  pub are : IsSeated w h seats

-- they have after an event of one job that was opened
touch-seats : (w : ℕ) (h : List Event) (k : Key) (e : Event) (o : Own) → list_any (is_key k) (keys_of h) ≡ true → Allowed w h e → Touches e k o → ((s : SoloMachine) → (solo_step s o).volume ≡ s.volume) → HasSeats w h → HasSeats w (h ++ e ∷ [])
touch-seats w h k e o opened may touches keeps has =
    let found : SeatOf has.seats k = opened-seat w h has.seats k has.are opened in
    let s : Seat = found.seat in
    let mine : Touches e s.job.titled.key o = subst (λ (x : Key). Touches e x o) (sym found.key) touches in
    record { seats = slice_set has.seats found.at (reseated s (and_own s.job o)); are = seats-touch w h has.seats found.at s e o (and_own s.job o) has.are found.is may mine refl (keeps s.job.titled.state) }

-- a balancing that is due has the shares of the seats with fair volumes
pub record IsBalancedBy (w : ℕ) (h : List Event) (shares : List Share) (ss : List Seat) : Type 0 where
  pub fair : IsFair w (live_asks (jobs_in ss)) (map (λ s. s.volume) shares)
  pub same : shares ≡ shares_by (map (λ s. s.volume) shares) ss
  pub due : is_balancing_due h ss ≡ true

pub balance-facts : (w : ℕ) (h : List Event) (shares : List Share) → MayBalance w h shares → (has : HasSeats w h) → IsBalancedBy w h shares has.seats
balance-facts w h shares may has = record { fair = fair; same = same; due = due }
  where
    ss : List Seat
    ss = has.seats

    vs : List ℕ
    vs = map (λ (s : Share). s.volume) shares

    fair : IsFair w (live_asks (jobs_in ss)) vs
    fair = subst (λ (ts : List KeyedJob). IsFair w (live_asks ts) vs) has.are.jobs may.fair

    same : shares ≡ shares_by vs ss
    same = shares-same shares (shares_by vs ss) (may.keys ∙ (ap (λ (ts : List KeyedJob). live_keys (lives ts)) has.are.jobs ∙ sym (shares-keys 0 vs ss))) (sym (shares-fair w vs ss fair))

    due : is_balancing_due h ss ≡ true
    due = by_test (is_balancing_due h ss) refl
      where
        by_test : (b : Bool) → is_balancing_due h ss ≡ b → b ≡ true
        by_test true e = refl
        by_test false e = absurd (may.due (balancing-calm w h ss has.are e))

-- and after a balancing
balance-seats : (w : ℕ) (h : List Event) (shares : List Share) → MayBalance w h shares → HasSeats w h → HasSeats w (h ++ Balance shares ∷ [])
balance-seats w h shares may has =
    let vs : List ℕ = map (λ (s : Share). s.volume) shares in
    let facts : IsBalancedBy w h shares has.seats = balance-facts w h shares may has in
    record { seats = balanced_by vs has.seats; are = subst (λ (xs : List Share). IsSeated w (h ++ Balance xs ∷ []) (balanced_by vs has.seats)) (sym facts.same) (seated-balance w h has.seats vs has.are facts.fair facts.due) }

pub event-seats : (w : ℕ) (h : List Event) (e : Event) → Allowed w h e → HasSeats w h → HasSeats w (h ++ e ∷ [])
event-seats w h (Open k ask) may has = record { seats = has.seats ++ opened_seat 0 k ask ∷ []; are = seated-open w h has.seats 0 k ask has.are may }
event-seats w h (Revise k number r) may has = touch-seats w h k (Revise k number r) (Revised r) (job_of-found h k may.0 may.1.job).opened may (revise-touches k number r) (λ s. (revise-keeps s r).volume) has
event-seats w h (Reask k weight) may has = touch-seats w h k (Reask k weight) (Reasked weight) (job_of-found h k may.0 may.1.job).opened may (reask-touches k weight) (λ s. refl) has
event-seats w h (Close k) may has = touch-seats w h k (Close k) Closed (job_of-found h k may.0 may.1.job).opened may (close-touches k) (λ s. refl) has
event-seats w h (Balance shares) may has = balance-seats w h shares may has
event-seats w h (Start k index worker) may has = touch-seats w h k (Start k index worker) (Started index) (key-stands (keys_of h) may.0.job k may.1.key) may (start-touches k index worker) (λ s. refl) has
event-seats w h (Finish k index worker outcome) may has = touch-seats w h k (Finish k index worker outcome) (Finished index outcome) (lease-opened h worker index k (legal-orderly w h has.are.legal) may) may (finish-touches k index worker outcome) (λ s. (finish-keeps s index outcome).volume) has
event-seats w h (Exchange k) may has =
    let opened : list_any (is_key may.0.key) (keys_of h) ≡ true = titled-opened h may.0.key (keys_of h) (λ (t : KeyedJob). is_exchange_due t.state) may.0 may.1.first in
    touch-seats w h k (Exchange k) Exchanged (subst (λ (x : Key). list_any (is_key x) (keys_of h) ≡ true) may.1.key opened) may (exchange-touches k) (λ s. refl) has
event-seats w h (Leave k) may has = record { seats = seats_without k has.seats; are = seated-leave w h has.seats k may.0 has.are may.1 }
event-seats w h (Arrive k brought) may has = record { seats = has.seats ++ arrived_seat 0 k brought ∷ []; are = seated-arrive w h has.seats 0 k brought has.are may }

-- the jobs of a legal history have seats
pub legal-seats : (w : ℕ) (h : List Event) → 1 ≤ w → Legal w h → HasSeats w h
legal-seats w h some legal = legal_from-keeps w (HasSeats w) (event-seats w) [] h legal (record { seats = []; are = seated-none w some })
