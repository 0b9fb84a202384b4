use Rattle.std.proofs.Common.{◌≡◌, ℕ, suc, Bool, true, false, cond, List, [], ◌∷◌, ◌++◌, slice_get, slice_set, Option, Some, None, refl, ◌∙◌, ap, subst}
use Rattle.std.specs.Option.{option_map}
use Rattle.spec_job.specs.SoloMachine.{Exchanged, is_exchange_due}
use Rattle.spec_job.specs.Viewed.{and_own}
use Rattle.spec_hall.specs.Events.{Event, Exchange}
use Rattle.spec_hall.specs.States.{states, exchange_due}
use Rattle.spec_hall.specs.Legal.{Allowed}
use Rattle.spec_hall.specs.Seats.{Seat, IsSeated, jobs_in, is_balancing_due, first_exchange}
use Rattle.spec_hall.proofs.TouchLemmas.{exchange-touches}
use Rattle.spec_hall.proofs.SeatLemmas.{reseated, seats-touch}
use Rattle.spec_hall.proofs.DueLemmas.{balancing-calm}

-- the first seat of whose job an exchange is due
pub first-found : (ss : List Seat) (n : ℕ) (s : Seat) → first_exchange ss ≡ Some n → slice_get ss n ≡ Some s → exchange_due (jobs_in ss) ≡ Some s.job.titled
first-found [] n s first at = absurd (cc)
first-found (x ∷ xs) n s first at = by_test (is_exchange_due x.job.titled.state) first (λ m e q. first-found xs m s e q)
  where
    by_rest : (o : Option ℕ) → first_exchange xs ≡ o → option_map suc o ≡ Some n → ((m : ℕ) → first_exchange xs ≡ Some m → slice_get xs m ≡ Some s → exchange_due (jobs_in xs) ≡ Some s.job.titled) → exchange_due (jobs_in xs) ≡ Some s.job.titled
    by_rest None e q rest = absurd (cc)
    by_rest (Some m) e q rest = let same : n ≡ suc m = cc in rest m e (subst (λ (i : ℕ). slice_get (x ∷ xs) i ≡ Some s) same at)

    by_test : (b : Bool) → cond b (Some 0) (option_map suc (first_exchange xs)) ≡ Some n → ((m : ℕ) → first_exchange xs ≡ Some m → slice_get xs m ≡ Some s → exchange_due (jobs_in xs) ≡ Some s.job.titled) → cond b (Some x.job.titled) (exchange_due (jobs_in xs)) ≡ Some s.job.titled
    by_test true q rest =
        let none : n ≡ 0 = cc in
        let here : slice_get (x ∷ xs) 0 ≡ Some s = subst (λ (i : ℕ). slice_get (x ∷ xs) i ≡ Some s) none at in
        let same : x ≡ s = cc in
        ap (λ (y : Seat). Some y.job.titled) same
    by_test false q rest = by_rest (first_exchange xs) refl q rest

pub first-none : (ss : List Seat) → first_exchange ss ≡ None → exchange_due (jobs_in ss) ≡ None
first-none [] none = refl
first-none (x ∷ xs) none = by_test (is_exchange_due x.job.titled.state) none (first-none xs)
  where
    by_rest : (o : Option ℕ) → option_map suc o ≡ None → o ≡ None
    by_rest None e = refl
    by_rest (Some m) e = absurd (cc)

    by_test : (b : Bool) → cond b (Some 0) (option_map suc (first_exchange xs)) ≡ None → (first_exchange xs ≡ None → exchange_due (jobs_in xs) ≡ None) → cond b (Some x.job.titled) (exchange_due (jobs_in xs)) ≡ None
    by_test true q rest = absurd (cc)
    by_test false q rest = rest (by_rest (first_exchange xs) q)

-- no exchange is due
pub seated-no_exchange : (w : ℕ) (h : List Event) (ss : List Seat) → IsSeated w h ss → first_exchange ss ≡ None → exchange_due (states h) ≡ None
seated-no_exchange w h ss seated none = ap exchange_due seated.jobs ∙ first-none ss none

-- where no balancing is due, the first exchange that is due is allowed
pub exchange-allowed : (w : ℕ) (h : List Event) (ss : List Seat) (n : ℕ) (s : Seat) → IsSeated w h ss → is_balancing_due h ss ≡ false → first_exchange ss ≡ Some n → slice_get ss n ≡ Some s → Allowed w h (Exchange s.job.titled.key)
exchange-allowed w h ss n s seated calm first at = (
  s.job.titled,
  record {
    balance = balancing-calm w h ss seated calm;
    first = ap exchange_due seated.jobs ∙ first-found ss n s first at;
    key = refl;
  },
)

-- and the job of that seat takes its step
pub seated-exchange : (w : ℕ) (h : List Event) (ss : List Seat) (n : ℕ) (s : Seat) → IsSeated w h ss → is_balancing_due h ss ≡ false → first_exchange ss ≡ Some n → slice_get ss n ≡ Some s → IsSeated w (h ++ Exchange s.job.titled.key ∷ []) (slice_set ss n (reseated s (and_own s.job Exchanged)))
seated-exchange w h ss n s seated calm first at =
    seats-touch w h ss n s (Exchange s.job.titled.key) Exchanged (and_own s.job Exchanged) seated at (exchange-allowed w h ss n s seated calm first at) (exchange-touches s.job.titled.key) refl refl
