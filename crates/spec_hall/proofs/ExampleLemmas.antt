-- The worked examples of an ask that changes.
use Rattle.std.proofs.Common.{◌≡◌, ℕ, zero, suc, ◌<◌, ◌≤◌, true, false, List, [], ◌∷◌, ◌++◌, length, map, get_or, Option, Some, option_map, inl, inr, refl, ap, arith}
use Rattle.std.specs.List.{list_any}
use Rattle.std.specs.Option.{option_map_or}
use Rattle.mal_base.specs.Limits.{limits}
use Rattle.mal_base.specs.Asks.{Terms}
use Rattle.mal_base.specs.Names.{is_name}
use Rattle.spec_balance.specs.Fair.{IsFair, HasNoBetterClaim, demand_at, volume_at}
use Rattle.spec_job.specs.Examples.{one_of_two}
use Rattle.spec_job.specs.KeyedJob.{KeyedJob}
use Rattle.spec_job.specs.SoloMachine.{Opened, Revised, Volume, solo}
use Rattle.spec_hall.specs.Events.{Event, Open, Close}
use Rattle.spec_hall.specs.Legal.{IsBalanceDue, Legal, MayOpen, MayRevise, job_of, jobs_of, tenant_count}
use Rattle.spec_hall.specs.Own.{is_key}
use Rattle.spec_hall.specs.States.{Live, names_of, states}
use Rattle.spec_hall.specs.Examples.{HasReasks, after, before, eight, key, posted, raised, three}

-- what holds at each of three places
of-three : (P : ℕ → Type 0) → P 0 → P 1 → P 2 → (i : ℕ) → i < 3 → P i
of-three P a b c zero low = a
of-three P a b c (suc zero) low = b
of-three P a b c (suc (suc zero)) low = c
of-three P a b c (suc (suc (suc i))) low = absurd (omega (arith, low))

-- after three places there is none
none-behind : (x y z i : ℕ) → 8 ≤ i → volume_at (x ∷ y ∷ z ∷ []) i ≡ 0
none-behind x y z zero high = absurd (omega (arith, high))
none-behind x y z (suc zero) high = absurd (omega (arith, high))
none-behind x y z (suc (suc zero)) high = absurd (omega (arith, high))
none-behind x y z (suc (suc (suc zero))) high = absurd (omega (arith, high))
none-behind x y z (suc (suc (suc (suc i)))) high = refl

-- the asks of p, q and r, where r has this priority
abbrev asks : ℕ → List Terms
asks priority = eight 4 ∷ eight 2 ∷ eight priority ∷ []

-- 5, 2 and 1 of eight workers are fair where r has priority 1
fair-before : IsFair 8 (asks 1) (5 ∷ 2 ∷ 1 ∷ [])
fair-before = record {
  same_length = refl;
  some = λ i low within. of-three (λ n. 1 ≤ volume_at (5 ∷ 2 ∷ 1 ∷ []) n) (omega arith) (omega arith) (omega arith) i low;
  wanted = λ i low within. of-three (λ n. volume_at (5 ∷ 2 ∷ 1 ∷ []) n ≤ demand_at (asks 1) n) (omega arith) (omega arith) (omega arith) i low;
  others = none-behind 5 2 1;
  total = refl;
  even = λ i j low within lower inside below above. of-three (λ n. 1 < volume_at (5 ∷ 2 ∷ 1 ∷ []) n → HasNoBetterClaim (asks 1) (5 ∷ 2 ∷ 1 ∷ []) i n) (λ some. to-p i low) (λ some. to-q i low) (λ some. absurd (omega (arith, some))) j lower above;
}
  where
    to-p : (i : ℕ) → i < 3 → HasNoBetterClaim (asks 1) (5 ∷ 2 ∷ 1 ∷ []) i 0
    to-p = of-three (λ n. HasNoBetterClaim (asks 1) (5 ∷ 2 ∷ 1 ∷ []) n 0) (inl (omega arith)) (inr (refl, omega arith)) (inr (refl, omega arith))

    to-q : (i : ℕ) → i < 3 → HasNoBetterClaim (asks 1) (5 ∷ 2 ∷ 1 ∷ []) i 1
    to-q = of-three (λ n. HasNoBetterClaim (asks 1) (5 ∷ 2 ∷ 1 ∷ []) n 1) (inl (omega arith)) (inl (omega arith)) (inl (omega arith))

-- 3, 2 and 3 are where it has priority 4
fair-after : IsFair 8 (asks 4) (3 ∷ 2 ∷ 3 ∷ [])
fair-after = record {
  same_length = refl;
  some = λ i low within. of-three (λ n. 1 ≤ volume_at (3 ∷ 2 ∷ 3 ∷ []) n) (omega arith) (omega arith) (omega arith) i low;
  wanted = λ i low within. of-three (λ n. volume_at (3 ∷ 2 ∷ 3 ∷ []) n ≤ demand_at (asks 4) n) (omega arith) (omega arith) (omega arith) i low;
  others = none-behind 3 2 3;
  total = refl;
  even = λ i j low within lower inside below above. of-three (λ n. HasNoBetterClaim (asks 4) (3 ∷ 2 ∷ 3 ∷ []) i n) (to-p i low) (to-q i low) (to-r i low) j lower;
}
  where
    to-p : (i : ℕ) → i < 3 → HasNoBetterClaim (asks 4) (3 ∷ 2 ∷ 3 ∷ []) i 0
    to-p = of-three (λ n. HasNoBetterClaim (asks 4) (3 ∷ 2 ∷ 3 ∷ []) n 0) (inl (omega arith)) (inl (omega arith)) (inl (omega arith))

    to-q : (i : ℕ) → i < 3 → HasNoBetterClaim (asks 4) (3 ∷ 2 ∷ 3 ∷ []) i 1
    to-q = of-three (λ n. HasNoBetterClaim (asks 4) (3 ∷ 2 ∷ 3 ∷ []) n 1) (inl (omega arith)) (inl (omega arith)) (inl (omega arith))

    to-r : (i : ℕ) → i < 3 → HasNoBetterClaim (asks 4) (3 ∷ 2 ∷ 3 ∷ []) i 2
    to-r = of-three (λ n. HasNoBetterClaim (asks 4) (3 ∷ 2 ∷ 3 ∷ []) n 2) (inl (omega arith)) (inl (omega arith)) (inl (omega arith))

-- a job that was just opened
abbrev opened : ℕ → ℕ → KeyedJob
opened letter priority = record { key = key letter; state = solo (Opened (eight priority) ∷ []) }

may-open : (past : List Event) (letter priority : ℕ) → is_name (letter ∷ []) ≡ true → 1 ≤ priority → priority ≤ limits.priority → list_any (is_key (key letter)) (names_of past) ≡ false → jobs_of (97 ∷ []) (names_of past) < limits.jobs_of_tenant → tenant_count (names_of past) < limits.tenants → MayOpen past (key letter) (eight priority)
may-open past letter priority name low high fresh jobs tenants = record {
  tenant = refl;
  job = name;
  asked = record { some_priority = low; priority_bound = high; some_demand = omega arith; demand_bound = omega arith; some_slices = omega arith; slices_bound = omega arith };
  fresh = fresh;
  tenant_room = jobs;
  hall_room = λ none. tenants;
}

may-revise : (past : List Event) (letter priority : ℕ) → job_of (key letter) (states past) ≡ Some (opened letter priority) → (t : KeyedJob) × MayRevise past (key letter) 1 one_of_two t
may-revise past letter priority found = (opened letter priority, record { job = found; open_still = refl; posted = refl; next = refl; room = omega arith; clause_room = omega arith; literal_room = omega arith })

-- the events before each revision
abbrev one : List Event
one = Open (key 112) (eight 4) ∷ []

abbrev two : List Event
two = posted 112 4 ++ Open (key 113) (eight 2) ∷ []

abbrev three_open : List Event
three_open = posted 112 4 ++ posted 113 2 ++ Open (key 114) (eight 1) ∷ []

-- the jobs were not listed before the first balancing
three-due : IsBalanceDue three
three-due same = let many : 3 ≡ 0 = ap (λ (o : Option (List Live)). option_map_or (λ (ls : List Live). length ls) o 0) same in absurd (omega (arith, many))

-- the last job had another priority
raised-due : IsBalanceDue raised
raised-due same = let last : 4 ≡ 1 = ap (λ (o : Option (List Live)). option_map_or (λ (ls : List Live). get_or (map (λ (l : Live). l.priority) ls) 2 0) o 0) same in absurd (omega (arith, last))

legal-reask : Legal 8 after
legal-reask = (
  may-open [] 112 4 refl (omega arith) (omega arith) refl (omega arith) (omega arith),
  (
    may-revise one 112 4 refl,
    (
      may-open (posted 112 4) 113 2 refl (omega arith) (omega arith) refl (omega arith) (omega arith),
      (
        may-revise two 113 2 refl,
        (
          may-open (posted 112 4 ++ posted 113 2) 114 1 refl (omega arith) (omega arith) refl (omega arith) (omega arith),
          (
            may-revise three_open 114 1 refl,
            (
              record { due = three-due; keys = refl; fair = fair-before },
              (
                (record { key = key 114; state = solo (Opened (eight 1) ∷ Revised one_of_two ∷ Volume 1 ∷ []) }, record { job = refl; open_still = refl; weighed = record { some_priority = omega arith; priority_bound = omega arith; some_demand = omega arith; demand_bound = omega arith } }),
                (
                  record { due = raised-due; keys = refl; fair = fair-after },
                  tt,
                ),
              ),
            ),
          ),
        ),
      ),
    ),
  ),
)

-- a job that is closed is not open
closed-not : (t : KeyedJob) → job_of (key 114) (states (before ++ Close (key 114) ∷ [])) ≡ Some t → t.state.closed ≡ false → ⊥
closed-not t found still =
    let closed : Some true ≡ Some t.state.closed = ap (option_map (λ (x : KeyedJob). x.state.closed)) found in
    absurd (cc)

pub reasks : HasReasks
reasks = record {
  fair = fair-before;
  calm = refl;
  read = refl;
  now = refl;
  due = raised-due;
  fair_now = fair-after;
  calm_now = refl;
  legal = legal-reask;
  mine = refl;
  others = refl;
  same = refl;
  back = refl;
  idle = refl;
  closed = λ t may. closed-not t may.job may.open_still;
  none = refl;
}
