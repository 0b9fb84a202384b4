-- The numbers of the jobs: no two that ever came have the same, and they rise from seat to seat.
use Rattle.std.proofs.Common.{◌≡◌, ℕ, zero, suc, ◌+◌, ◌<◌, Bool, true, false, cond, ◌||◌, List, [], ◌∷◌, ◌++◌, slice_get, Option, Some, refl, sym, ◌∙◌, ap, subst, arith}
use Rattle.std.specs.List.{list_any}
use Rattle.std.specs.Option.{option_map}
use Rattle.std.proofs.lemmas.Bool.{both_ways, or_from}
use Rattle.std.proofs.lemmas.List.Folds.{list_any-append}
use Rattle.std.proofs.lemmas.Option.{slice_get-map}
use Rattle.spec_job.specs.KeyedJob.{Key}
use Rattle.spec_hall.specs.Events.{Event, Open, Revise, Reask, Close, Balance, Start, Finish, Exchange, Leave, Arrive}
use Rattle.spec_hall.specs.Legal.{Legal}
use Rattle.spec_hall.specs.Own.{is_key}
use Rattle.spec_hall.specs.Seats.{Seat, IsSeated, place_of}
use Rattle.spec_hall.specs.Spots.{AreSpots, Spot, tag_of, tags_of}
use Rattle.spec_hall.specs.States.{comings_in, job_number, keys_of, names_of, with_key}
use Rattle.spec_hall.proofs.ComingLemmas.{IsComing, NoneComes, Rises, arrive-comes, comings_in-push, legal-numbered, number-comes, number-other, number-stays, open-comes, rises-once}
use Rattle.spec_hall.proofs.KeyLemmas.{is_key-Decides, key-stands}
use Rattle.spec_hall.proofs.LeasesLemmas.{All-at}
use Rattle.spec_hall.proofs.OrderlyLemmas.{legal-orderly, was_named}
use Rattle.spec_hall.proofs.PushLemmas.{names-push}
use Rattle.spec_hall.proofs.SeatLemmas.{sits-at}
use Rattle.spec_hall.proofs.StatesLemmas.{legal_from-keeps}

-- the number of each job that ever came is below the next one, and no other has it
record AreApart (past : List Event) : Type 0 where
  low : (k : Key) → was_named past k ≡ true → job_number k past < comings_in past
  once : (j k : Key) → was_named past j ≡ true → was_named past k ≡ true → job_number j past ≡ job_number k past → is_key j k ≡ true

-- a name among those with one more is that one or was there
with-there : (j k : Key) (names : List Key) → is_key j k ≡ false → list_any (is_key j) (with_key k names) ≡ true → list_any (is_key j) names ≡ true
with-there j k names other there = by_test (list_any (is_key k) names) there
  where
    by_test : (b : Bool) → list_any (is_key j) (cond b names (names ++ k ∷ [])) ≡ true → list_any (is_key j) names ≡ true
    by_test true q = q
    by_test false q = by_names (list_any (is_key j) names) refl
      where
        by_names : (c : Bool) → list_any (is_key j) names ≡ c → c ≡ true
        by_names true e = refl
        by_names false e = absurd (both_ways (list_any (is_key j) (names ++ k ∷ [])) (list_any-append (is_key j) names (k ∷ []) ∙ or_from (list_any (is_key j) names) (is_key j k || false) e (or_from (is_key j k) false other refl)) q)

none-apart : (past : List Event) (e : Event) → NoneComes e → names_of (past ++ e ∷ []) ≡ names_of past → AreApart past → AreApart (past ++ e ∷ [])
none-apart past e none names are =
    let count : comings_in (past ++ e ∷ []) ≡ comings_in past = comings_in-push past e ∙ none.counts (comings_in past) in
    record {
      low = λ k named. subst (λ (n : ℕ). job_number k (past ++ e ∷ []) < n) (sym count) (subst (λ (n : ℕ). n < comings_in past) (sym (number-stays k past e none)) (are.low k (ap (list_any (is_key k)) (sym names) ∙ named)));
      once = λ j k one other same. are.once j k (ap (list_any (is_key j)) (sym names) ∙ one) (ap (list_any (is_key k)) (sym names) ∙ other) (sym (number-stays j past e none) ∙ (same ∙ number-stays k past e none));
    }

come-apart : (past : List Event) (k : Key) (e : Event) → IsComing k e → names_of (past ++ e ∷ []) ≡ with_key k (names_of past) → AreApart past → AreApart (past ++ e ∷ [])
come-apart past k e comes names are = record { low = λ j named. low j named (is_key j k) refl; once = λ i j one other same. once i j one other same (is_key i k) refl (is_key j k) refl }
  where
    now : List Event
    now = past ++ e ∷ []

    count : comings_in now ≡ comings_in past + 1
    count = comings_in-push past e ∙ comes.counts (comings_in past)

    mine : job_number k now ≡ comings_in past
    mine = number-comes k past e comes

    was : (j : Key) → is_key j k ≡ false → was_named now j ≡ true → was_named past j ≡ true
    was j other named = with-there j k (names_of past) other (ap (list_any (is_key j)) (sym names) ∙ named)

    number-of : (j : Key) → is_key j k ≡ true → job_number j now ≡ comings_in past
    number-of j same = subst (λ (x : Key). job_number x now ≡ comings_in past) (sym ((is_key-Decides j k).0 same)) mine

    before : (j : Key) → is_key j k ≡ false → was_named now j ≡ true → job_number j now < comings_in past
    before j other named = subst (λ (n : ℕ). n < comings_in past) (sym (number-other j k past e comes other)) (are.low j (was j other named))

    low : (j : Key) → was_named now j ≡ true → (b : Bool) → is_key j k ≡ b → job_number j now < comings_in now
    low j named true q = omega (arith, number-of j q, count)
    low j named false q = omega (arith, before j q named, count)

    once : (i j : Key) → was_named now i ≡ true → was_named now j ≡ true → job_number i now ≡ job_number j now → (a : Bool) → is_key i k ≡ a → (b : Bool) → is_key j k ≡ b → is_key i j ≡ true
    once i j one other same true p true q = (is_key-Decides i j).1 ((is_key-Decides i k).0 p ∙ sym ((is_key-Decides j k).0 q))
    once i j one other same true p false q = absurd (omega (arith, number-of i p, before j q other, same))
    once i j one other same false p true q = absurd (omega (arith, before i p one, number-of j q, same))
    once i j one other same false p false q = are.once i j (was i p one) (was j q other) (sym (number-other i k past e comes p) ∙ (same ∙ number-other j k past e comes q))

event-apart : (past : List Event) (e : Event) → AreApart past → AreApart (past ++ e ∷ [])
event-apart past (Open k ask) are = come-apart past k (Open k ask) (open-comes k ask) (names-push past (Open k ask)) are
event-apart past (Revise k number r) are = none-apart past (Revise k number r) (record { steps = λ j n. refl; counts = λ n. refl }) (names-push past (Revise k number r)) are
event-apart past (Reask k weight) are = none-apart past (Reask k weight) (record { steps = λ j n. refl; counts = λ n. refl }) (names-push past (Reask k weight)) are
event-apart past (Close k) are = none-apart past (Close k) (record { steps = λ j n. refl; counts = λ n. refl }) (names-push past (Close k)) are
event-apart past (Balance shares) are = none-apart past (Balance shares) (record { steps = λ j n. refl; counts = λ n. refl }) (names-push past (Balance shares)) are
event-apart past (Start k index worker) are = none-apart past (Start k index worker) (record { steps = λ j n. refl; counts = λ n. refl }) (names-push past (Start k index worker)) are
event-apart past (Finish k index worker outcome) are = none-apart past (Finish k index worker outcome) (record { steps = λ j n. refl; counts = λ n. refl }) (names-push past (Finish k index worker outcome)) are
event-apart past (Exchange k) are = none-apart past (Exchange k) (record { steps = λ j n. refl; counts = λ n. refl }) (names-push past (Exchange k)) are
event-apart past (Leave k) are = none-apart past (Leave k) (record { steps = λ j n. refl; counts = λ n. refl }) (names-push past (Leave k)) are
event-apart past (Arrive k brought) are = come-apart past k (Arrive k brought) (arrive-comes k brought) (names-push past (Arrive k brought)) are

legal-apart : (w : ℕ) (h : List Event) → Legal w h → AreApart h
legal-apart w h legal = legal_from-keeps w AreApart (λ past e may are. event-apart past e are) [] h legal (record { low = λ k named. absurd (both_ways false refl named); once = λ j k one other same. absurd (both_ways false refl one) })

-- the number of a job that ever came is below the next one
pub number-low : (w : ℕ) (h : List Event) (k : Key) → Legal w h → was_named h k ≡ true → job_number k h < comings_in h
number-low w h k legal named = (legal-apart w h legal).low k named

-- two jobs that ever came with one number are one
pub number-once : (w : ℕ) (h : List Event) (j k : Key) → Legal w h → was_named h j ≡ true → was_named h k ≡ true → job_number j h ≡ job_number k h → j ≡ k
number-once w h j k legal one other same = (is_key-Decides j k).0 ((legal-apart w h legal).once j k one other same)

-- the seat of a key whose job is there: no seat before it has this key
place-here : (k : Key) (ss : List Seat) (n : ℕ) (s : Seat) → slice_get ss n ≡ Some s → s.job.titled.key ≡ k → ((m : ℕ) (x : Seat) → slice_get ss m ≡ Some x → x.job.titled.key ≡ k → m ≡ n) → place_of k ss ≡ Some n
place-here k [] n s at key only = absurd (cc)
place-here k (x ∷ xs) zero s at key only =
    let same : x ≡ s = cc in
    ap (λ (b : Bool). cond b (Some 0) (option_map suc (place_of k xs))) ((is_key-Decides k x.job.titled.key).1 (sym (ap (λ (y : Seat). y.job.titled.key) same ∙ key)))
place-here k (x ∷ xs) (suc n) s at key only = by_test (is_key k x.job.titled.key) refl (λ f. place-here k xs n s at key f)
  where
    less : (a b : ℕ) → suc a ≡ suc b → a ≡ b
    less a b q = omega (arith, q)

    not-zero : (a : ℕ) → 0 ≡ suc a → ⊥
    not-zero a q = omega (arith, q)

    by_test : (b : Bool) → is_key k x.job.titled.key ≡ b → (((m : ℕ) (y : Seat) → slice_get xs m ≡ Some y → y.job.titled.key ≡ k → m ≡ n) → place_of k xs ≡ Some n) → cond b (Some 0) (option_map suc (place_of k xs)) ≡ Some (suc n)
    by_test true q rest = absurd (not-zero n (only 0 x refl (sym ((is_key-Decides k x.job.titled.key).0 q))))
    by_test false q rest = ap (option_map suc) (rest (λ m y e f. less m n (only (suc m) y e f)))

-- numbers that rise from job to job are less at a place before
rises-less : (f : Key → ℕ) (ks : List Key) (m n : ℕ) (a b : Key) → Rises f ks → m < n → slice_get ks m ≡ Some a → slice_get ks n ≡ Some b → f a < f b
rises-less f [] m n a b h less p q = absurd (cc)
rises-less f (k ∷ ks) m zero a b h less p q = absurd (omega (arith, less))
rises-less f (k ∷ ks) zero (suc n) a b h less p q = let first : k ≡ a = cc in subst (λ (x : Key). f x < f b) first (All-at (λ j. f k < f j) ks n b h.0 q)
rises-less f (k ∷ ks) (suc m) (suc n) a b h less p q = rises-less f ks m n a b h.1 (omega (arith, less)) p q

module _ (w : ℕ) (h : List Event) (ss : List Seat) (spots : List (Option Spot)) (seated : IsSeated w h ss) (are : AreSpots w h (tags_of ss) spots) where
  -- the job in a seat has the number of its last coming
  pub seat-number : (n : ℕ) (s : Seat) → slice_get ss n ≡ Some s → s.job.number ≡ job_number s.job.titled.key h
  seat-number n s at = (are.tagged n (tag_of s) (slice_get-map tag_of ss n ∙ ap (option_map tag_of) at)).number

  seat-place : (n : ℕ) (s : Seat) → slice_get ss n ≡ Some s → slice_get (keys_of h) n ≡ Some s.job.titled.key
  seat-place n s at = (sits-at h ss n s seated.jobs at).place

  seat-named : (n : ℕ) (s : Seat) → slice_get ss n ≡ Some s → was_named h s.job.titled.key ≡ true
  seat-named n s at = (legal-orderly w h seated.legal).known s.job.titled.key (key-stands (keys_of h) n s.job.titled.key (seat-place n s at))

  -- a seat with the number of a job that ever came is the seat of that job
  pub seat-of_number : (k : Key) (n : ℕ) (s : Seat) → was_named h k ≡ true → slice_get ss n ≡ Some s → s.job.number ≡ job_number k h → s.job.titled.key ≡ k
  seat-of_number k n s named at number = number-once w h s.job.titled.key k seated.legal (seat-named n s at) named (sym (seat-number n s at) ∙ number)

  -- so where the job is not there no seat has its number
  pub seat-gone : (k : Key) (n : ℕ) (s : Seat) → was_named h k ≡ true → list_any (is_key k) (keys_of h) ≡ false → slice_get ss n ≡ Some s → s.job.number ≡ job_number k h → ⊥
  seat-gone k n s named absent at number =
      both_ways (list_any (is_key k) (keys_of h)) absent (subst (λ (x : Key). list_any (is_key x) (keys_of h) ≡ true) (seat-of_number k n s named at number) (key-stands (keys_of h) n s.job.titled.key (seat-place n s at)))

  -- two seats with one number are one
  pub seat-once : (m n : ℕ) (a b : Seat) → slice_get ss m ≡ Some a → slice_get ss n ≡ Some b → a.job.number ≡ b.job.number → m ≡ n
  seat-once m n a b one other same =
      rises-once (λ k. job_number k h) (keys_of h) m n a.job.titled.key b.job.titled.key (legal-numbered w h seated.legal).rise (seat-place m a one) (seat-place n b other) (sym (seat-number m a one) ∙ (same ∙ seat-number n b other))

  -- and the place of a key is that of the seat with the number of its job
  pub seat-place_of : (k : Key) (n : ℕ) (s : Seat) → was_named h k ≡ true → slice_get ss n ≡ Some s → s.job.number ≡ job_number k h → place_of k ss ≡ Some n
  seat-place_of k n s named at number =
      place-here k ss n s at (seat-of_number k n s named at number) (λ m x e key. seat-once m n x s e at (seat-number m x e ∙ (ap (λ (j : Key). job_number j h) key ∙ sym number)))

  -- the numbers are below the next one
  pub seat-low : (n : ℕ) (s : Seat) → slice_get ss n ≡ Some s → s.job.number < comings_in h
  seat-low n s at = subst (λ (m : ℕ). m < comings_in h) (sym (seat-number n s at)) (number-low w h s.job.titled.key seated.legal (seat-named n s at))

  -- and rise from seat to seat
  pub seats-rise : (m n : ℕ) (a b : Seat) → m < n → slice_get ss m ≡ Some a → slice_get ss n ≡ Some b → a.job.number < b.job.number
  seats-rise m n a b less one other =
      subst (λ (x : ℕ). x < b.job.number) (sym (seat-number m a one)) (subst (λ (y : ℕ). job_number a.job.titled.key h < y) (sym (seat-number n b other))
      (rises-less (λ k. job_number k h) (keys_of h) m n a.job.titled.key b.job.titled.key (legal-numbered w h seated.legal).rise less (seat-place m a one) (seat-place n b other)))
