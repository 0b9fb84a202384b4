use Rattle.std.specs.Prelude.{◌≡◌, ℕ, ◌-◌, ◌*◌, ◌<◌, ◌≤◌, ◌⊎◌, min, List, length, map, sum, sum_by, get_or}
use Rattle.mal_base.specs.declared.profile.Profile.TheVariants.{Plain}
use Rattle.mal_base.specs.Asks.{Terms}

-- an ask that asks for nothing
abbrev pub no_ask : Terms
no_ask = record { priority = 0; demand = 0; slices = 0; profile = Plain }

-- the priority of the job at a place
abbrev pub priority_at : List Terms → ℕ → ℕ
priority_at asks i = (get_or asks i no_ask).priority

-- the demand of the job at a place
abbrev pub demand_at : List Terms → ℕ → ℕ
demand_at asks i = (get_or asks i no_ask).demand

-- the volume of the job at a place
abbrev pub volume_at : List ℕ → ℕ → ℕ
volume_at volumes i = get_or volumes i 0

-- the job at place i has no better claim to the last worker of the job at place j: its priority for each worker that j
-- would keep is less than j's for each worker that i has, and a tie goes to the job that was opened earlier
abbrev pub HasNoBetterClaim : List Terms → List ℕ → ℕ → ℕ → Type 0
HasNoBetterClaim asks volumes i j =
    (priority_at asks i * (volume_at volumes j - 1) < priority_at asks j * volume_at volumes i)
    ⊎ ((priority_at asks j * volume_at volumes i ≡ priority_at asks i * (volume_at volumes j - 1)) × (j ≤ i))

-- the volumes of the live jobs, by opening, are fair for so many workers: the first jobs, at most as many as there are
-- workers, have at least one worker and at most their demand, the others have none; as many workers are given as there
-- are or as are asked for; and no job below its demand has a better claim to another's worker
pub record IsFair (workers : ℕ) (asks : List Terms) (volumes : List ℕ) : Type 0 where
  pub same_length : length volumes ≡ length asks
  pub some : (i : ℕ) → i < length asks → i < workers → 1 ≤ volume_at volumes i
  pub wanted : (i : ℕ) → i < length asks → i < workers → volume_at volumes i ≤ demand_at asks i
  pub others : (i : ℕ) → workers ≤ i → volume_at volumes i ≡ 0
  pub total : sum volumes ≡ min workers (sum_by (λ a. a.demand) asks)
  pub even : (i j : ℕ) → i < length asks → i < workers → j < length asks → j < workers → volume_at volumes i < demand_at asks i → 1 < volume_at volumes j → HasNoBetterClaim asks volumes i j

-- a job asks for a worker at least, as every ask in form does
abbrev pub AsksForSome : Terms → Type 0
AsksForSome ask = 1 ≤ ask.demand

-- a job by its names, with its ask
pub record Asking : Type 0 where
  pub tenant : List ℕ
  pub name : List ℕ
  pub ask : Terms

-- the asks of jobs
abbrev pub asks_of : List Asking → List Terms
asks_of jobs = map (λ j. j.ask) jobs
