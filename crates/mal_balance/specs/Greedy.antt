use Rattle.std.specs.Prelude.{◌≡◌, ℕ, ◌*◌, ◌<◌, ◌≤◌, ◌⊎◌, List, length, sum, Option, MatchOption}
use Rattle.mal_base.specs.Asks.{Terms}
use Rattle.spec_balance.specs.Fair.{priority_at, demand_at, volume_at, HasNoBetterClaim}

-- so many workers have been given to the first jobs, as the rule of fair volumes has it
pub record IsGreedy (asks : List Terms) (first made : ℕ) (volumes : List ℕ) : Type 0 where
  pub same_length : length volumes ≡ length asks
  pub within : first ≤ length asks
  pub some : (i : ℕ) → i < first → 1 ≤ volume_at volumes i
  pub wanted : (i : ℕ) → i < first → volume_at volumes i ≤ demand_at asks i
  pub others : (i : ℕ) → first ≤ i → volume_at volumes i ≡ 0
  pub total : sum volumes ≡ made
  pub even : (i j : ℕ) → i < first → j < first → volume_at volumes i < demand_at asks i → 1 < volume_at volumes j → HasNoBetterClaim asks volumes i j

-- none of the first jobs is below its demand
abbrev pub IsClosed : List Terms → List ℕ → ℕ → Type 0
IsClosed asks volumes first = (i : ℕ) → i < first → demand_at asks i ≤ volume_at volumes i

-- the next worker of job b comes before the next worker of job i
abbrev pub Precedes : List Terms → List ℕ → ℕ → ℕ → Type 0
Precedes asks volumes b i =
    (priority_at asks i * volume_at volumes b < priority_at asks b * volume_at volumes i)
    ⊎ ((priority_at asks b * volume_at volumes i ≡ priority_at asks i * volume_at volumes b) × (b ≤ i))

-- of the first jobs that are below their demand, b has the best claim
pub record IsNext (asks : List Terms) (volumes : List ℕ) (first b : ℕ) : Type 0 where
  pub here : b < first
  pub open_still : volume_at volumes b < demand_at asks b
  pub before : (i : ℕ) → i < first → volume_at volumes i < demand_at asks i → Precedes asks volumes b i

-- the job that the next worker goes to, none where each has its demand
abbrev pub IsBest : List Terms → List ℕ → ℕ → Option ℕ → Type 0
IsBest asks volumes first best = MatchOption best (IsClosed asks volumes first) (IsNext asks volumes first)

-- the first jobs, up to a place, have one worker each, which they want, and all others none
pub record IsStarted (asks : List Terms) (upto : ℕ) (volumes : List ℕ) : Type 0 where
  pub same_length : length volumes ≡ length asks
  pub ones : (i : ℕ) → i < upto → volume_at volumes i ≡ 1
  pub asked : (i : ℕ) → i < upto → 1 ≤ demand_at asks i
  pub zeros : (i : ℕ) → upto ≤ i → volume_at volumes i ≡ 0
  pub total : sum volumes ≡ upto
