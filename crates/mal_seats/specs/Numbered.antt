-- Seats by the numbers of their jobs.
use Rattle.std.specs.Prelude.{◌≡◌, ℕ, suc, ◌<◌, ◌==◌, List, [], ◌∷◌, map, slice_get, Option, Some, None, if◌then◌else◌}
use Rattle.std.specs.Option.{option_map, option_map_or}
use Rattle.spec_hall.specs.Seats.{Seat}

-- the place of the seat whose job has this number
abbrev pub place_numbered : ℕ → List Seat → Option ℕ
place_numbered n [] = None
place_numbered n (s ∷ seats) = if s.job.number == n then Some 0 else option_map suc (place_numbered n seats)

-- all numbers of the seats are below this one
abbrev pub IsAbove : ℕ → List Seat → Type 0
IsAbove n seats = (at : ℕ) (s : Seat) → slice_get seats at ≡ Some s → s.job.number < n

-- all of these numbers are above this one
abbrev pub AreAbove : ℕ → List ℕ → Type 0
AreAbove n [] = Unit {0}
AreAbove n (m ∷ ms) = (n < m) × AreAbove n ms

-- each number is below all after it
abbrev pub AreRising : List ℕ → Type 0
AreRising [] = Unit {0}
AreRising (n ∷ ns) = AreAbove n ns × AreRising ns

-- the numbers of the jobs
abbrev pub numbers_in : List Seat → List ℕ
numbers_in seats = map (λ s. s.job.number) seats

-- the numbers of the jobs rise
abbrev pub Rise : List Seat → Type 0
Rise seats = AreRising (numbers_in seats)

-- a place, if the job there has this number
abbrev pub place_if : ℕ → List Seat → ℕ → Option ℕ
place_if n seats at = option_map_or (λ s. if s.job.number == n then Some at else None) (slice_get seats at) None
