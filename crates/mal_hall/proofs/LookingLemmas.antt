-- What is read of the jobs that are here, and of those that were.
use Rattle.std.proofs.Common.{◌≡◌, ℕ, zero, suc, ◌+◌, ◌<◌, ◌≤◌, Bool, true, false, cond, List, [], ◌∷◌, length, drop, map, slice_get, Option, Some, None, option_map, is_some, Err, refl, sym, ◌∙◌, ap, arith}
use Rattle.std.specs.List.{list_any}
use Rattle.std.proofs.lemmas.Bool.{both_ways}
use Rattle.mal_base.specs.Limits.{limits}
use Rattle.mal_base.specs.declared.hall_fault.AdmitFault.TheVariants.{Present}
use Rattle.spec_job.specs.KeyedJob.{Key, KeyedJob}
use Rattle.spec_hall.specs.Calls.{IsAdmission, MayCome}
use Rattle.spec_hall.specs.Events.{Event}
use Rattle.spec_hall.specs.Legal.{job_of, jobs_of, tenant_count}
use Rattle.spec_hall.specs.Own.{is_key}
use Rattle.spec_hall.specs.Seats.{Seat, is_live_seat, jobs_in}
use Rattle.spec_hall.specs.States.{Live, keys_of, live_of, live_ones, lives, names_of, states, titled}
use Rattle.spec_hall.specs.Turns.{first_live}
use Rattle.spec_hall.proofs.SeatLemmas.{seated-keys}
use Rattle.spec_hall.proofs.StatesLemmas.{job_of-states}
use Rattle.mal_hall.specs.HallView.{Inside, IsHall, place_by}
use Rattle.mal_hall.specs.Named.{found}
use Rattle.mal_hall.proofs.HallLemmas.{hall-place}
use Rattle.mal_hall.proofs.KeptLemmas.{name-counts}
use Rattle.mal_hall.proofs.NumberLemmas.{place-some}

-- the key of the first live job of these
abbrev pub live_key : List Seat → Option Key
live_key ss = option_map (λ (l : Live). l.key) (slice_get (lives (jobs_in ss)) 0)

live-next : (ss : List Seat) (n : ℕ) (s : Seat) → slice_get ss n ≡ Some s → live_key (drop n ss) ≡ cond (is_live_seat s) (Some s.job.titled.key) (live_key (drop (suc n) ss))
live-next [] n s at = absurd (cc)
live-next (x ∷ xs) zero s at =
    let same : x ≡ s = cc in
    by_test (is_live_seat x) ∙ ap (λ (y : Seat). cond (is_live_seat y) (Some y.job.titled.key) (live_key xs)) same
  where
    by_test : (b : Bool) → option_map (λ (l : Live). l.key) (slice_get (map live_of (cond b (x.job.titled ∷ live_ones (jobs_in xs)) (live_ones (jobs_in xs)))) 0) ≡ cond b (Some x.job.titled.key) (live_key xs)
    by_test true = refl
    by_test false = refl
live-next (x ∷ xs) (suc n) s at = live-next xs n s at

pub live-here : (ss : List Seat) (n : ℕ) (s : Seat) (b : Bool) → slice_get ss n ≡ Some s → b ≡ is_live_seat s → b ≡ true → live_key (drop n ss) ≡ Some s.job.titled.key
live-here ss n s b at scan is = live-next ss n s at ∙ ap (λ (c : Bool). cond c (Some s.job.titled.key) (live_key (drop (suc n) ss))) (sym scan ∙ is)

pub live-later : (ss : List Seat) (n : ℕ) (s : Seat) (b : Bool) → slice_get ss n ≡ Some s → b ≡ is_live_seat s → b ≡ false → live_key (drop (n + 1) ss) ≡ live_key (drop n ss)
live-later ss n s b at scan is =
    let next : n + 1 ≡ suc n = omega arith in
    ap (λ (m : ℕ). live_key (drop m ss)) next
    ∙ sym (live-next ss n s at ∙ ap (λ (c : Bool). cond c (Some s.job.titled.key) (live_key (drop (suc n) ss))) (sym scan ∙ is))

pub live-none : (ss : List Seat) (n : ℕ) → length ss ≤ n → live_key (drop n ss) ≡ None
live-none [] zero long = refl
live-none [] (suc n) long = refl
live-none (x ∷ xs) zero long = absurd (omega (arith, long))
live-none (x ∷ xs) (suc n) long = live-none xs n (omega (arith, long))

-- a key is there where its place is
pub here-test : (x : Inside) (k : Key) (o : Option ℕ) (b : Bool) → IsHall x → o ≡ place_by (found x.names.numbers k) x.seats → b ≡ is_some o → b ≡ list_any (is_key k) (keys_of x.entries.events)
here-test x k o b hall scan test =
    test
    ∙ (ap (λ (p : Option ℕ). is_some p) (hall-place x k o hall scan)
    ∙ (sym (place-some k x.seats) ∙ ap (list_any (is_key k)) (sym (seated-keys x.entries.events x.seats hall.seated.jobs))))

-- the first live job
pub live-hall : (x : Inside) (o : Option Key) → IsHall x → o ≡ live_key x.seats → o ≡ first_live x.entries.events
live-hall x o hall scan = scan ∙ ap (λ (ts : List KeyedJob). option_map (λ (l : Live). l.key) (slice_get (lives ts) 0)) (sym hall.seated.jobs)

-- whether a job is here
pub job-here : (past : List Event) (k : Key) → list_any (is_key k) (keys_of past) ≡ true → IsAdmission past k (Err Present)
job-here past k here = (titled past k, job_of-states past k ∙ ap (λ (b : Bool). cond b (Some (titled past k)) None) here)

pub job-away : (past : List Event) (k : Key) → list_any (is_key k) (keys_of past) ≡ false → job_of k (states past) ≡ None
job-away past k away = job_of-states past k ∙ ap (λ (b : Bool). cond b (Some (titled past k)) None) away

-- a name that a job had before has room
pub come-known : (past : List Event) (k : Key) → job_of k (states past) ≡ None → list_any (is_key k) (names_of past) ≡ true → MayCome past k
come-known past k away known = record {
  absent = away;
  tenant_room = λ new. absurd (both_ways (list_any (is_key k) (names_of past)) new known);
  hall_room = λ none. absurd (omega (arith, name-counts k (names_of past) known, none));
}

-- and a new one where there are not too many
pub come-new : (past : List Event) (k : Key) (jobs tenants : ℕ) → job_of k (states past) ≡ None → jobs ≡ jobs_of k.tenant (names_of past) → tenants ≡ tenant_count (names_of past) → jobs < limits.jobs_of_tenant → (jobs ≡ 0 → tenants < limits.tenants) → MayCome past k
come-new past k jobs tenants away count tenants_is few others = record {
  absent = away;
  tenant_room = λ new. omega (arith, count, few);
  hall_room = λ none. omega (arith, tenants_is, others (count ∙ none));
}
