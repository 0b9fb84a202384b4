-- The jobs that have a volume.
use Rattle.std.specs.Prelude.{ℕ, ◌+◌, ◌-◌, Bool, false, not, ◌==◌, nat_lt, List, [], ◌∷◌, map, filter, slice_get, Option, Some, None, if◌then◌else◌}
use Rattle.std.specs.Option.{option_map_or}
use Rattle.spec_job.specs.SoloMachine.{is_exchange_due}
use Rattle.spec_hall.specs.Seats.{Seat, pick_job}
use Rattle.spec_hall.specs.States.{Candidate}

-- places, with this one in front where it has a volume
abbrev pub filled_first : ℕ → ℕ → List ℕ → List ℕ
filled_first at volume places = if nat_lt 0 volume then at ∷ places else places

-- the places of the jobs that have a volume, of which the first has this place
abbrev pub filled_from : ℕ → List Seat → List ℕ
filled_from at [] = []
filled_from at (s ∷ seats) = filled_first at s.job.titled.state.volume (filled_from (at + 1) seats)

-- the places of the jobs that have a volume
abbrev pub filled_in : List Seat → List ℕ
filled_in seats = filled_from 0 seats

-- what was picked so far, or a node of the job at a place
abbrev pub pick_at : List Seat → Option Candidate → ℕ → Option Candidate
pick_at seats best at = option_map_or (λ s. pick_job at s.job.titled.state best) (slice_get seats at) best

-- what was picked so far, or a node of the jobs at these places
abbrev pub pick_among : List Seat → Option Candidate → List ℕ → Option Candidate
pick_among seats best [] = best
pick_among seats best (at ∷ places) = pick_among seats (pick_at seats best at) places

-- whether an exchange is due of the job at a place
abbrev pub is_due_at : List Seat → ℕ → Bool
is_due_at seats at = option_map_or (λ s. is_exchange_due s.job.titled.state) (slice_get seats at) false

-- the first of these places at which an exchange is due
abbrev pub first_among : List Seat → List ℕ → Option ℕ
first_among seats [] = None
first_among seats (at ∷ places) = if is_due_at seats at then Some at else first_among seats places

-- a place after the seat at another one is gone
abbrev pub moved_up : ℕ → ℕ → ℕ
moved_up gone at = if nat_lt gone at then at - 1 else at

-- places without one that is gone, those after it one less
abbrev pub closed_up : ℕ → List ℕ → List ℕ
closed_up gone places = map (moved_up gone) (filter (λ at. not (at == gone)) places)
