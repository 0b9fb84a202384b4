-- The numbers of the jobs that are there.
use Rattle.std.proofs.Common.{◌≡◌, ℕ, zero, suc, ◌+◌, ◌<◌, ◌≤◌, Bool, true, false, cond, not, List, [], ◌∷◌, ◌++◌, filter, fold, slice_get, Some, refl, sym, ◌∙◌, ap, subst, arith}
use Rattle.std.specs.Prelude.{All}
use Rattle.std.specs.List.{list_any}
use Rattle.std.proofs.lemmas.Bool.{or_parts}
use Rattle.std.proofs.lemmas.List.Elements.{All-nil, All-cons, All-head, All-tail, All-push, All-filter}
use Rattle.std.proofs.lemmas.List.Sums.{fold_push}
use Rattle.mal_base.specs.Asks.{Terms}
use Rattle.spec_job.specs.SoloMachine.{Own}
use Rattle.spec_job.specs.KeyedJob.{Key}
use Rattle.spec_hall.specs.Events.{Event, Open, Revise, Reask, Close, Balance, Start, Finish, Exchange, Leave, Arrive}
use Rattle.spec_hall.specs.Own.{is_key}
use Rattle.spec_hall.specs.States.{Coming, coming, coming_step, comings, comings_in, comings_step, job_number, keys_of, keys_step}
use Rattle.spec_hall.specs.Legal.{Allowed, Legal}
use Rattle.spec_hall.proofs.KeyLemmas.{is_key-back, is_key-same}
use Rattle.spec_hall.proofs.PushLemmas.{keys-push}
use Rattle.spec_hall.proofs.StatesLemmas.{job_of-absent, legal_from-keeps}
use Rattle.spec_hall.proofs.OrderlyLemmas.{IsOrderly, legal-orderly, name-absent, orderly-push}
use Rattle.spec_hall.proofs.LeasesLemmas.{All-at}

-- the openings and arrivals after one more event
pub comings-push : (k : Key) (h : List Event) (e : Event) → comings k (h ++ e ∷ []) ≡ coming_step k (comings k h) e
comings-push k h e = fold_push (coming_step k) (record { all = 0; last = 0 }) h e

pub comings_in-push : (h : List Event) (e : Event) → comings_in (h ++ e ∷ []) ≡ comings_step (comings_in h) e
comings_in-push h e = fold_push comings_step 0 h e

-- whose number is looked for, there are as many
pub comings-all : (k : Key) (n last : ℕ) (es : List Event) → (fold (coming_step k) (record { all = n; last = last }) es).all ≡ fold comings_step n es
comings-all k n last [] = refl
comings-all k n last (Open j ask ∷ es) = comings-all k (n + 1) (cond (is_key k j) n last) es
comings-all k n last (Revise j number r ∷ es) = comings-all k n last es
comings-all k n last (Reask j weight ∷ es) = comings-all k n last es
comings-all k n last (Close j ∷ es) = comings-all k n last es
comings-all k n last (Balance shares ∷ es) = comings-all k n last es
comings-all k n last (Start j index worker ∷ es) = comings-all k n last es
comings-all k n last (Finish j index worker outcome ∷ es) = comings-all k n last es
comings-all k n last (Exchange j ∷ es) = comings-all k n last es
comings-all k n last (Leave j ∷ es) = comings-all k n last es
comings-all k n last (Arrive j brought ∷ es) = comings-all k (n + 1) (cond (is_key k j) n last) es

-- an event is the opening or the arrival of a job
pub record IsComing (k : Key) (e : Event) : Type 0 where
  pub steps : (j : Key) (n : Coming) → coming_step j n e ≡ coming j n k
  pub counts : (n : ℕ) → comings_step n e ≡ n + 1
  pub keys : (ks : List Key) → keys_step ks e ≡ ks ++ k ∷ []

-- the job that comes has the next number
pub number-comes : (k : Key) (past : List Event) (e : Event) → IsComing k e → job_number k (past ++ e ∷ []) ≡ comings_in past
number-comes k past e comes =
    ap (λ (n : Coming). n.last) (comings-push k past e ∙ comes.steps k (comings k past))
    ∙ (ap (λ (b : Bool). cond b (comings k past).all (comings k past).last) (is_key-same k) ∙ comings-all k 0 0 past)

-- another keeps its number
pub number-other : (j k : Key) (past : List Event) (e : Event) → IsComing k e → is_key j k ≡ false → job_number j (past ++ e ∷ []) ≡ job_number j past
number-other j k past e comes other =
    ap (λ (n : Coming). n.last) (comings-push j past e ∙ comes.steps j (comings j past))
    ∙ ap (λ (b : Bool). cond b (comings j past).all (comings j past).last) other

-- where none comes each job keeps its number
pub record NoneComes (e : Event) : Type 0 where
  pub steps : (j : Key) (n : Coming) → coming_step j n e ≡ n
  pub counts : (n : ℕ) → comings_step n e ≡ n

pub number-stays : (k : Key) (past : List Event) (e : Event) → NoneComes e → job_number k (past ++ e ∷ []) ≡ job_number k past
number-stays k past e none = ap (λ (n : Coming). n.last) (comings-push k past e ∙ none.steps k (comings k past))

-- the numbers rise from job to job
abbrev pub Rises : (Key → ℕ) → List Key → Type 0
Rises f [] = Unit {0}
Rises f (k ∷ ks) = All (λ j. f k < f j) ks × Rises f ks

rises-filter : (f : Key → ℕ) (keep : Key → Bool) (ks : List Key) → Rises f ks → Rises f (filter keep ks)
rises-filter f keep [] h = tt
rises-filter f keep (k ∷ ks) h = by_test (keep k) (rises-filter f keep ks h.1)
  where
    by_test : (b : Bool) → Rises f (filter keep ks) → Rises f (cond b (k ∷ filter keep ks) (filter keep ks))
    by_test true rest = (All-filter keep (λ j. f k < f j) ks h.0, rest)
    by_test false rest = rest

rises-push : (f : Key → ℕ) (ks : List Key) (k : Key) → Rises f ks → All (λ j. f j < f k) ks → Rises f (ks ++ k ∷ [])
rises-push f [] k h below = (All-nil (λ (j : Key). f k < f j), tt)
rises-push f (x ∷ xs) k h below = (All-push (λ j. f x < f j) xs k h.0 (All-head (λ j. f j < f k) x xs below), rises-push f xs k h.1 (All-tail (λ j. f j < f k) x xs below))

-- numbers that are the same for each of these jobs
abbrev AreSame : (Key → ℕ) → (Key → ℕ) → List Key → Type 0
AreSame f g ks = All (λ j. g j ≡ f j) ks

below-same : (f g : Key → ℕ) (n m : ℕ) (ks : List Key) → n ≡ m → AreSame f g ks → All (λ j. n < f j) ks → All (λ j. m < g j) ks
below-same f g n m [] e same h = All-nil (λ (j : Key). m < g j)
below-same f g n m (k ∷ ks) e same h =
    let here : n < f k = All-head (λ j. n < f j) k ks h in
    let now : g k ≡ f k = All-head (λ j. g j ≡ f j) k ks same in
    All-cons (λ j. m < g j) k ks (omega (arith, here, now, e)) (below-same f g n m ks e (All-tail (λ j. g j ≡ f j) k ks same) (All-tail (λ j. n < f j) k ks h))

rises-same : (f g : Key → ℕ) (ks : List Key) → AreSame f g ks → Rises f ks → Rises g ks
rises-same f g [] same h = tt
rises-same f g (k ∷ ks) same h =
    let rest : AreSame f g ks = All-tail (λ j. g j ≡ f j) k ks same in
    (below-same f g (f k) (g k) ks (sym (All-head (λ j. g j ≡ f j) k ks same)) rest h.0, rises-same f g ks rest h.1)

all-same : (f g : Key → ℕ) (ks : List Key) → ((j : Key) → g j ≡ f j) → AreSame f g ks
all-same f g [] h = All-nil (λ (j : Key). g j ≡ f j)
all-same f g (k ∷ ks) h = All-cons (λ j. g j ≡ f j) k ks (h k) (all-same f g ks h)

others-same : (f g : Key → ℕ) (k : Key) (ks : List Key) → list_any (is_key k) ks ≡ false → ((j : Key) → is_key j k ≡ false → g j ≡ f j) → AreSame f g ks
others-same f g k [] absent h = All-nil (λ (j : Key). g j ≡ f j)
others-same f g k (x ∷ xs) absent h =
    let parts = or_parts (is_key k x) (list_any (is_key k) xs) absent in
    All-cons (λ j. g j ≡ f j) x xs (h x (is_key-back k x parts.0)) (others-same f g k xs parts.1 h)

low-same : (f g : Key → ℕ) (n m : ℕ) (ks : List Key) → n ≤ m → AreSame f g ks → All (λ j. f j < n) ks → All (λ j. g j < m) ks
low-same f g n m [] e same h = All-nil (λ (j : Key). g j < m)
low-same f g n m (k ∷ ks) e same h =
    let here : f k < n = All-head (λ j. f j < n) k ks h in
    let now : g k ≡ f k = All-head (λ j. g j ≡ f j) k ks same in
    All-cons (λ j. g j < m) k ks (omega (arith, here, now, e)) (low-same f g n m ks e (All-tail (λ j. g j ≡ f j) k ks same) (All-tail (λ j. f j < n) k ks h))

-- the number of each job after a history
abbrev pub numbers : List Event → Key → ℕ
numbers past k = job_number k past

-- the numbers of the jobs that are there rise, below the next one
pub record AreNumbered (past : List Event) : Type 0 where
  pub orderly : IsOrderly past
  pub rise : Rises (numbers past) (keys_of past)
  pub low : All (λ j. job_number j past < comings_in past) (keys_of past)

-- these are the keys after the event
record IsNumbered (past : List Event) (e : Event) (ks : List Key) : Type 0 where
  rise : Rises (numbers (past ++ e ∷ [])) ks
  low : All (λ j. job_number j (past ++ e ∷ []) < comings_in (past ++ e ∷ [])) ks

none-numbered : (past : List Event) (e : Event) → NoneComes e → AreNumbered past → IsNumbered past e (keys_of past)
none-numbered past e none are =
    let same : AreSame (numbers past) (numbers (past ++ e ∷ [])) (keys_of past) = all-same (numbers past) (numbers (past ++ e ∷ [])) (keys_of past) (λ j. number-stays j past e none) in
    let count : comings_in (past ++ e ∷ []) ≡ comings_in past = comings_in-push past e ∙ none.counts (comings_in past) in
    record {
      rise = rises-same (numbers past) (numbers (past ++ e ∷ [])) (keys_of past) same are.rise;
      low = low-same (numbers past) (numbers (past ++ e ∷ [])) (comings_in past) (comings_in (past ++ e ∷ [])) (keys_of past) (omega (arith, count)) same are.low;
    }

leave-numbered : (past : List Event) (e : Event) (keep : Key → Bool) → NoneComes e → AreNumbered past → IsNumbered past e (filter keep (keys_of past))
leave-numbered past e keep none are =
    let all : IsNumbered past e (keys_of past) = none-numbered past e none are in
    record {
      rise = rises-filter (numbers (past ++ e ∷ [])) keep (keys_of past) all.rise;
      low = All-filter keep (λ j. job_number j (past ++ e ∷ []) < comings_in (past ++ e ∷ [])) (keys_of past) all.low;
    }

come-numbered : (past : List Event) (k : Key) (e : Event) → IsComing k e → list_any (is_key k) (keys_of past) ≡ false → AreNumbered past → IsNumbered past e (keys_of past ++ k ∷ [])
come-numbered past k e comes absent are =
    let now : List Event = past ++ e ∷ [] in
    let same : AreSame (numbers past) (numbers now) (keys_of past) = others-same (numbers past) (numbers now) k (keys_of past) absent (λ j other. number-other j k past e comes other) in
    let count : comings_in now ≡ comings_in past + 1 = comings_in-push past e ∙ comes.counts (comings_in past) in
    let mine : job_number k now ≡ comings_in past = number-comes k past e comes in
    record {
      rise = rises-push (numbers now) (keys_of past) k (rises-same (numbers past) (numbers now) (keys_of past) same are.rise) (low-same (numbers past) (numbers now) (comings_in past) (job_number k now) (keys_of past) (omega (arith, mine)) same are.low);
      low = All-push (λ j. job_number j now < comings_in now) (keys_of past) k (low-same (numbers past) (numbers now) (comings_in past) (comings_in now) (keys_of past) (omega (arith, count)) same are.low) (omega (arith, mine, count));
    }

pub open-comes : (k : Key) (ask : Terms) → IsComing k (Open k ask)
open-comes k ask = record { steps = λ j n. refl; counts = λ n. refl; keys = λ ks. refl }

pub arrive-comes : (k : Key) (brought : List Own) → IsComing k (Arrive k brought)
arrive-comes k brought = record { steps = λ j n. refl; counts = λ n. refl; keys = λ ks. refl }

event-numbered : (w : ℕ) (past : List Event) (e : Event) → Allowed w past e → AreNumbered past → IsNumbered past e (keys_step (keys_of past) e)
event-numbered w past (Open k ask) may are = come-numbered past k (Open k ask) (open-comes k ask) (name-absent past k are.orderly may.fresh) are
event-numbered w past (Revise k number r) may are = none-numbered past (Revise k number r) (record { steps = λ j n. refl; counts = λ n. refl }) are
event-numbered w past (Reask k weight) may are = none-numbered past (Reask k weight) (record { steps = λ j n. refl; counts = λ n. refl }) are
event-numbered w past (Close k) may are = none-numbered past (Close k) (record { steps = λ j n. refl; counts = λ n. refl }) are
event-numbered w past (Balance shares) may are = none-numbered past (Balance shares) (record { steps = λ j n. refl; counts = λ n. refl }) are
event-numbered w past (Start k index worker) may are = none-numbered past (Start k index worker) (record { steps = λ j n. refl; counts = λ n. refl }) are
event-numbered w past (Finish k index worker outcome) may are = none-numbered past (Finish k index worker outcome) (record { steps = λ j n. refl; counts = λ n. refl }) are
event-numbered w past (Exchange k) may are = none-numbered past (Exchange k) (record { steps = λ j n. refl; counts = λ n. refl }) are
event-numbered w past (Leave k) may are = leave-numbered past (Leave k) (λ j. not (is_key k j)) (record { steps = λ j n. refl; counts = λ n. refl }) are
event-numbered w past (Arrive k brought) may are = come-numbered past k (Arrive k brought) (arrive-comes k brought) (job_of-absent past k may.absent) are

numbered-push : (w : ℕ) (past : List Event) (e : Event) → Allowed w past e → AreNumbered past → AreNumbered (past ++ e ∷ [])
numbered-push w past e may are =
    let now : IsNumbered past e (keys_step (keys_of past) e) = event-numbered w past e may are in
    record {
      orderly = orderly-push w past e may are.orderly;
      rise = subst (Rises (numbers (past ++ e ∷ []))) (sym (keys-push past e)) now.rise;
      low = subst (All (λ j. job_number j (past ++ e ∷ []) < comings_in (past ++ e ∷ []))) (sym (keys-push past e)) now.low;
    }

-- so it is in a legal history
pub legal-numbered : (w : ℕ) (h : List Event) → Legal w h → AreNumbered h
legal-numbered w h legal = legal_from-keeps w AreNumbered (numbered-push w) [] h legal (record { orderly = legal-orderly w [] tt; rise = tt; low = All-nil (λ (j : Key). job_number j [] < 0) })

-- two places with one number are one place
pub rises-once : (f : Key → ℕ) (ks : List Key) (m n : ℕ) (a b : Key) → Rises f ks → slice_get ks m ≡ Some a → slice_get ks n ≡ Some b → f a ≡ f b → m ≡ n
rises-once f [] m n a b h p q e = absurd (cc)
rises-once f (k ∷ ks) zero zero a b h p q e = refl
rises-once f (k ∷ ks) zero (suc n) a b h p q e =
    let first : k ≡ a = cc in
    let less : f k < f b = All-at (λ j. f k < f j) ks n b h.0 q in
    absurd (omega (arith, less, ap f first, e))
rises-once f (k ∷ ks) (suc m) zero a b h p q e =
    let first : k ≡ b = cc in
    let less : f k < f a = All-at (λ j. f k < f j) ks m a h.0 p in
    absurd (omega (arith, less, ap f first, e))
rises-once f (k ∷ ks) (suc m) (suc n) a b h p q e = ap suc (rises-once f ks m n a b h.1 p q e)
