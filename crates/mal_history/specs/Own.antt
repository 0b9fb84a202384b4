-- The own events of a job: what its history tells of it alone.
use Rattle.std.specs.Prelude.{ℕ, Bool, ◌&&◌, true, false, ◌==◌, bytes_eq, List, [], ◌∷◌, ◌++◌, fold, find, if◌then◌else◌, Option, Some, None}
use Rattle.std.specs.Option.{option_map_or}
use Rattle.mal_history.specs.declared.event.Event.{Event}
use Rattle.mal_history.specs.declared.event.Event.TheVariants.{Open, Revise, Reask, Close, Balance, Start, Finish, Exchange, Leave, Arrive}
use Rattle.mal_history.specs.declared.event.Share.{Share}

-- a job of a tenant is the one of these names
abbrev pub is_of : List ℕ → List ℕ → List ℕ → List ℕ → Bool
is_of tenant job t j = bytes_eq t tenant && bytes_eq j job

-- the volume that a balancing gives a job, 0 where it is not listed
abbrev pub volume_in : List ℕ → List ℕ → List Share → ℕ
volume_in tenant job volumes = option_map_or (λ s. s.volume) (find (λ s. is_of tenant job s.tenant s.job) volumes) 0

-- what is told of a job so far: its own events, and its volume
pub record OwnSoFar : Type 0 where
  pub own : List Event
  pub volume : ℕ

abbrev pub told_of : List Event → ℕ → OwnSoFar
told_of own volume = record { own = own; volume = volume }

-- an event of the job is told
abbrev pub tells : Bool → Event → OwnSoFar → OwnSoFar
tells true e told = told_of (told.own ++ e ∷ []) told.volume
tells false e told = told

-- of a balancing the job's volume is told, where it differs from the one before
abbrev pub tells_volume : List ℕ → List ℕ → ℕ → OwnSoFar → OwnSoFar
tells_volume tenant job volume told =
    if volume == told.volume then told else told_of (told.own ++ Balance (record { tenant = tenant; job = job; volume = volume } ∷ []) ∷ []) volume

-- at a leave the job's volume is 0
abbrev pub tells_leave : List ℕ → List ℕ → Bool → OwnSoFar → OwnSoFar
tells_leave tenant job true told = tells_volume tenant job 0 told
tells_leave tenant job false told = told

-- an arrival stands for what it brought, after which the volume is 0, and for nothing else
abbrev pub tells_arrival : List ℕ → List ℕ → Bool → OwnSoFar → OwnSoFar
tells_arrival tenant job true told = told_of (Arrive tenant job ∷ []) 0
tells_arrival tenant job false told = told

-- after one more event; a start and a finish are told without their worker, as of worker 1
abbrev pub own_step : List ℕ → List ℕ → OwnSoFar → Event → OwnSoFar
own_step tenant job told (Open t j ask) = tells (is_of tenant job t j) (Open tenant job ask) told
own_step tenant job told (Revise t j number) = tells (is_of tenant job t j) (Revise tenant job number) told
own_step tenant job told (Reask t j weight) = tells (is_of tenant job t j) (Reask tenant job weight) told
own_step tenant job told (Close t j) = tells (is_of tenant job t j) (Close tenant job) told
own_step tenant job told (Balance volumes) = tells_volume tenant job (volume_in tenant job volumes) told
own_step tenant job told (Start t j index worker) = tells (is_of tenant job t j) (Start tenant job index 1) told
own_step tenant job told (Finish t j index worker outcome) = tells (is_of tenant job t j) (Finish tenant job index 1 outcome) told
own_step tenant job told (Exchange t j) = tells (is_of tenant job t j) (Exchange tenant job) told
own_step tenant job told (Leave t j) = tells_leave tenant job (is_of tenant job t j) told
own_step tenant job told (Arrive t j) = tells_arrival tenant job (is_of tenant job t j) told

-- an event as one of the job; none for a balancing and for a move
abbrev pub own_event : List ℕ → List ℕ → Event → Option Event
own_event tenant job (Open t j ask) = Some (Open tenant job ask)
own_event tenant job (Revise t j number) = Some (Revise tenant job number)
own_event tenant job (Reask t j weight) = Some (Reask tenant job weight)
own_event tenant job (Close t j) = Some (Close tenant job)
own_event tenant job (Balance volumes) = None
own_event tenant job (Start t j index worker) = Some (Start tenant job index 1)
own_event tenant job (Finish t j index worker outcome) = Some (Finish tenant job index 1 outcome)
own_event tenant job (Exchange t j) = Some (Exchange tenant job)
own_event tenant job (Leave t j) = None
own_event tenant job (Arrive t j) = None

-- an event is one of the job; a balancing is of no one job
abbrev pub is_own : List ℕ → List ℕ → Event → Bool
is_own tenant job (Open t j ask) = is_of tenant job t j
is_own tenant job (Revise t j number) = is_of tenant job t j
is_own tenant job (Reask t j weight) = is_of tenant job t j
is_own tenant job (Close t j) = is_of tenant job t j
is_own tenant job (Balance volumes) = false
is_own tenant job (Start t j index worker) = is_of tenant job t j
is_own tenant job (Finish t j index worker outcome) = is_of tenant job t j
is_own tenant job (Exchange t j) = is_of tenant job t j
is_own tenant job (Leave t j) = is_of tenant job t j
is_own tenant job (Arrive t j) = is_of tenant job t j

-- after one more event, of which only a balancing and a move are told
abbrev pub other_step : List ℕ → List ℕ → OwnSoFar → Event → OwnSoFar
other_step tenant job told (Balance volumes) = tells_volume tenant job (volume_in tenant job volumes) told
other_step tenant job told (Leave t j) = tells_leave tenant job (is_of tenant job t j) told
other_step tenant job told (Arrive t j) = tells_arrival tenant job (is_of tenant job t j) told
other_step tenant job told event = told

-- the own events of a job in a history, whose volume is 0 at first
abbrev pub own : List ℕ → List ℕ → List Event → List Event
own tenant job events = (fold (own_step tenant job) (told_of [] 0) events).own
