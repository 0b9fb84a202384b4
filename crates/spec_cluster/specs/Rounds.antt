-- Rounds of a cluster: each hall works for some slices, and then the first live job of each goes on to the next hall.
use Rattle.std.specs.Prelude.{◌≡◌, ◌⊎◌, ℕ, zero, suc, ◌+◌, ◌%◌, ◌<◌, Bool, true, false, ◌&&◌, ◌||◌, ◌==◌, not, nat_lt, List, [], ◌∷◌, ◌++◌, length, take, map, sum_by, Option, Some, None, Err, if◌then◌else◌}
use Rattle.std.specs.List.{list_any}
use Rattle.mal_base.specs.declared.hall_fault.PickFault.TheVariants.{OutOfMemory}
use Rattle.spec_job.specs.KeyedJob.{Key}
use Rattle.spec_hall.specs.Calls.{HasCalled, Picks}
use Rattle.spec_hall.specs.Events.{Event}
use Rattle.spec_hall.specs.Legal.{jobs_of, tenant_count}
use Rattle.spec_hall.specs.Measure.{left_among}
use Rattle.spec_hall.specs.States.{lives, names_of, states}
use Rattle.spec_hall.specs.Turns.{IsSlice, TakesTurn, first_live}
use Rattle.spec_cluster.specs.Calls.{went}
use Rattle.spec_cluster.specs.Clusters.{Cluster, is_named}
use Rattle.spec_cluster.specs.Visits.{Move, hall_at}

-- each hall takes its turn
abbrev pub AllTurn : ℕ → ℕ → List (List Event) → List (List Event) → Type 0
AllTurn workers n [] [] = Unit {0}
AllTurn workers n [] (now ∷ nows) = ⊥
AllTurn workers n (past ∷ pasts) [] = ⊥
AllTurn workers n (past ∷ pasts) (now ∷ nows) = TakesTurn workers n past now × AllTurn workers n pasts nows

-- whether a job may come to a hall: its name was there, or there is room for one more
abbrev pub may_come : Key → List Event → Bool
may_come k h = is_named k h || (nat_lt (jobs_of k.tenant (names_of h)) 64 && (not (jobs_of k.tenant (names_of h) == 0) || nat_lt (tenant_count (names_of h)) 64))

-- the place of the next hall, the first after the last
abbrev pub next_hall : ℕ → Cluster → ℕ
next_hall from c = (from + 1) % length c.halls

-- the job that was chosen in a hall goes on to the next where it may come there, and stays else
abbrev pub goes : Option Key → ℕ → Cluster → Cluster
goes None from c = c
goes (Some k) from c = if may_come k (hall_at c.halls (next_hall from c)) then went k from (next_hall from c) c else c

-- the jobs that were chosen go on one after the other, by their halls, of which the first has this place
abbrev pub carried : List (Option Key) → ℕ → Cluster → Cluster
carried [] from c = c
carried (chosen ∷ rest) from c = carried rest (from + 1) (goes chosen from c)

-- a round: all halls take their turns, and then the first live job of each goes on; all are chosen before the first goes
pub record IsRound (every : ℕ) (before after : Cluster) : Type 0 where
  pub mids : List (List Event)
  pub turned : AllTurn before.workers every before.halls mids
  pub moved : after ≡ carried (map first_live mids) 0 (record before { halls = mids })

-- whether a job is live in some hall
abbrev pub is_live : Cluster → Bool
is_live c = list_any (λ h. not (length (lives (states h)) == 0)) c.halls

-- rounds, one after the other, while a job is live: these are the clusters after each
abbrev pub AreRounds : ℕ → Cluster → List Cluster → Cluster → Type 0
AreRounds every now [] end = (end ≡ now) × (is_live now ≡ false)
AreRounds every now (next ∷ rest) end = (is_live now ≡ true) × IsRound every now next × AreRounds every next rest end

-- memory ran out while a cluster went rounds: all events and moves that were made stay
pub record HasBegun (before after : Cluster) : Type 0 where
  pub workers : after.workers ≡ before.workers
  pub histories : (n : ℕ) → (later : List Event) × (hall_at after.halls n ≡ hall_at before.halls n ++ later)
  pub more : List Move
  pub moves : after.moves ≡ before.moves ++ more

-- a turn that stopped short of so many slices, since memory ran out where the worker picked again
abbrev pub StopsShort : ℕ → ℕ → List Event → List Event → Type 0
StopsShort workers zero past now = ⊥
StopsShort workers (suc n) past now = HasCalled workers past (Picks 1) (Err OutOfMemory) now ⊎ ((mid : List Event) × IsSlice workers past mid × StopsShort workers n mid now)

-- the halls before a place took their turns, the turn of that at the place stopped short, those after it are as before,
-- and no job moved
pub record IsTurning (every at : ℕ) (before now : Cluster) : Type 0 where
  pub within : at < length before.halls
  pub workers : now.workers ≡ before.workers
  pub size : length now.halls ≡ length before.halls
  pub moves : now.moves ≡ before.moves
  pub done : (n : ℕ) → n < at → TakesTurn before.workers every (hall_at before.halls n) (hall_at now.halls n)
  pub begun : StopsShort before.workers every (hall_at before.halls at) (hall_at now.halls at)
  pub left : (n : ℕ) → at < n → hall_at now.halls n ≡ hall_at before.halls n

-- all halls took their turns, and of the jobs that were chosen those of the first halls, so many, went on
pub record IsGoing (every count : ℕ) (before now : Cluster) : Type 0 where
  pub mids : List (List Event)
  pub turned : AllTurn before.workers every before.halls mids
  pub moved : now ≡ carried (take count (map first_live mids)) 0 (record before { halls = mids })

-- a part of a round, of which the rest was not gone
abbrev pub IsPart : ℕ → Cluster → Cluster → Type 0
IsPart every before now = ((at : ℕ) × IsTurning every at before now) ⊎ ((count : ℕ) × IsGoing every count before now)

-- rounds, one after the other, each while a job is live: these are the clusters after each, of which this is the last
abbrev pub GoRounds : ℕ → Cluster → List Cluster → Cluster → Type 0
GoRounds every now [] last = last ≡ now
GoRounds every now (next ∷ rest) last = (is_live now ≡ true) × IsRound every now next × GoRounds every next rest last

-- memory ran out in a round: the rounds before it are whole, and of it a part stays
pub record IsBrokenOff (every : ℕ) (before after : Cluster) : Type 0 where
  pub rounds : List Cluster
  pub last : Cluster
  pub whole : GoRounds every before rounds last
  pub live : is_live last ≡ true
  pub part : IsPart every last after

-- how many slices the jobs of all halls may still run
abbrev pub left_over : Cluster → ℕ
left_over c = sum_by (λ h. left_among (states h)) c.halls
