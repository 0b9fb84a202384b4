use Rattle.std.specs.Prelude.{◌≡◌, ℕ, ◌+◌, ◌≤◌, Bool, List, length, count_by, not, is_some, is_none, Option, Some, None}
use Rattle.std.specs.Option.{option_map_or}
use Rattle.spec_job.specs.KeyedJob.{Key}
use Rattle.spec_hall.specs.Calls.{Handed}
use Rattle.spec_hall.specs.Events.{Event}
use Rattle.spec_hall.specs.Leases.{starts_in}
use Rattle.spec_hall.specs.States.{balanced, comings_in, names_of, states}
use Rattle.spec_hall.specs.Legal.{job_of, tenant_count}
use Rattle.spec_hall.specs.Seats.{Seat, IsSeated}
use Rattle.spec_hall.specs.Spots.{Spot, AreSpots, tags_of}
use Rattle.mal_hall.specs.Entered.{Entered}
use Rattle.mal_hall.specs.Named.{AreNamed}
use Rattle.mal_hall.specs.declared.names.Names.{Names}
use Rattle.mal_seats.specs.Numbered.{place_numbered}

-- a hall as contracts see it: the number of workers, the events with the revisions that were posted, and the leases
-- that are kept inside
pub record HallView : Type 0 where
  pub workers : ℕ
  pub events : List Event
  pub inside : List (Option Handed)

-- how many jobs are not closed
abbrev pub unclosed_in : List Seat → ℕ
unclosed_in seats = count_by (λ s. not s.job.titled.state.closed) seats

-- how many leases are out
abbrev pub out_in : List (Option Spot) → ℕ
out_in spots = count_by (λ o. is_some o) spots

-- the place of the job that has this number, none where there is no number
abbrev pub place_by : Option ℕ → List Seat → Option ℕ
place_by None seats = None
place_by (Some number) seats = place_numbered number seats

-- what is noted of the jobs that ever came: the names with the numbers of their last comings, how many tenants and
-- comings there were, and whether a job moved since the last balancing
pub record AreNoted (events : List Event) (names : Names) (tenants comings : ℕ) (moved : Bool) : Type 0 where
  pub named : AreNamed events names.numbers names.tenants
  pub tenants_is : tenants ≡ tenant_count (names_of events)
  pub comings_is : comings ≡ comings_in events
  pub moved_is : moved ≡ is_none (balanced events)

-- what a hall has: what it entered, its jobs in their seats, the spots of the workers' leases, the names, how many
-- starts, jobs that are not closed, tenants and comings there are, and whether a job moved since the last balancing
pub record Inside : Type 0 where
  pub entries : Entered
  pub seats : List Seat
  pub spots : List (Option Spot)
  pub names : Names
  pub starts : ℕ
  pub unclosed : ℕ
  pub tenants : ℕ
  pub comings : ℕ
  pub moved : Bool

-- for how many events room is kept: the closing of each job that is not closed, the finish of each lease, and the leave
-- of each job that is there
abbrev pub owed_in : ℕ → List Seat → List (Option Spot) → ℕ
owed_in unclosed seats spots = unclosed + out_in spots + length seats

-- what a hall keeps: what was entered is a history of its jobs, the spots are those of the leases that are out, what is
-- counted and noted is so rightly, and there is room for what is owed
pub record IsHall (x : Inside) : Type 0 where
  pub bound : x.entries.workers ≤ 64
  pub seated : IsSeated x.entries.workers x.entries.events x.seats
  pub spots : AreSpots x.entries.workers x.entries.events (tags_of x.seats) x.spots
  pub starts_is : x.starts ≡ starts_in x.entries.events
  pub unclosed_is : x.unclosed ≡ unclosed_in x.seats
  pub noted : AreNoted x.entries.events x.names x.tenants x.comings x.moved
  pub room : owed_in x.unclosed x.seats x.spots ≤ x.entries.room

-- the number of the next revision of a job
abbrev pub next_number : Key → List Event → ℕ
next_number k history = option_map_or (λ t. length t.state.revisions + 1) (job_of k (states history)) 1
