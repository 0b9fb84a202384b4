-- The stays of a job in the halls of a cluster, and all that it did in them.
use Rattle.std.specs.Prelude.{ℕ, ◌+◌, Bool, true, false, List, [], ◌∷◌, map, filter, flat_map, drop, get_or, if◌then◌else◌}
use Rattle.std.specs.List.{list_any}
use Rattle.spec_job.specs.KeyedJob.{Key}
use Rattle.spec_job.specs.SoloMachine.{Own}
use Rattle.spec_hall.specs.Events.{Event, Open}
use Rattle.spec_hall.specs.Own.{own, is_key, leaves}

-- a stay of a job: the place of its hall, counted from 0, and how many events that hall had when it began, the job's
-- arrival among them
pub record Visit : Type 0 where
  pub hall : ℕ
  pub from : ℕ

-- a move: the job, and the stay that it begins
pub record Move : Type 0 where
  pub key : Key
  pub visit : Visit

-- the history of the hall at a place
abbrev pub hall_at : List (List Event) → ℕ → List Event
hall_at halls n = get_or halls n []

-- the events of its hall from the beginning of a stay on
abbrev pub since : List (List Event) → Visit → List Event
since halls v = drop v.from (hall_at halls v.hall)

-- nothing more where a job has left
abbrev pub unless : Bool → List Event → List Event
unless true es = []
unless false es = es

-- the events up to a job's leave, and with it
abbrev pub until_leave : Key → List Event → List Event
until_leave k [] = []
until_leave k (e ∷ es) = e ∷ unless (leaves k e) (until_leave k es)

-- whether an event opens a job
abbrev pub opens : Key → Event → Bool
opens k (Open j ask) = is_key k j
opens k event = false

-- the place of the first hall that opened a job, that after the last hall where none did
abbrev pub opened_in : Key → List (List Event) → ℕ
opened_in k [] = 0
opened_in k (h ∷ hs) = if list_any (opens k) h then 0 else opened_in k hs + 1

-- the stays that moves began for a job
abbrev pub moved_to : Key → List Move → List Visit
moved_to k moves = map (λ m. m.visit) (filter (λ m. is_key k m.key) moves)

-- the stays of a job, in the order of its moves: the first is where it was opened
abbrev pub visits : Key → List (List Event) → List Move → List Visit
visits k halls moves = record { hall = opened_in k halls; from = 0 } ∷ moved_to k moves

-- what a job did in a stay
abbrev pub stayed : Key → List (List Event) → Visit → List Own
stayed k halls v = own k (until_leave k (since halls v))

-- all that a job did, stay after stay; what an arrival brought is not read
abbrev pub all_of : Key → List (List Event) → List Move → List Own
all_of k halls moves = flat_map (stayed k halls) (visits k halls moves)
