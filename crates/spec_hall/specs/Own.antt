use Rattle.std.specs.Prelude.{ℕ, Bool, false, ◌&&◌, ◌==◌, List, [], ◌∷◌, ◌++◌, fold, if◌then◌else◌}
use Rattle.std.specs.Option.{option_map_or}
use Rattle.std.specs.Prelude.{find}
use Rattle.std.specs.Cmp.Lexicographic.{pointwise}
use Rattle.mal_history.specs.declared.event.Share.{Share}
use Rattle.spec_job.specs.KeyedJob.{Key}
use Rattle.spec_hall.specs.Events.{Event, Open, Revise, Reask, Close, Balance, Start, Finish, Exchange, Leave, Arrive, key_of}
use Rattle.spec_job.specs.SoloMachine.{Own, Opened, Revised, Reasked, Closed, Volume, Started, Finished, Exchanged}

-- two texts are equal
abbrev pub is_text : List ℕ → List ℕ → Bool
is_text a b = pointwise (λ x y. x == y) a b

-- two keys are equal
abbrev pub is_key : Key → Key → Bool
is_key a b = is_text a.tenant b.tenant && is_text a.job b.job

-- the volume that a balancing gives a job, 0 where it is not listed
abbrev pub volume_in : Key → List Share → ℕ
volume_in k shares = option_map_or (λ s. s.volume) (find (λ s. is_key k (key_of s)) shares) 0

-- the volume after an own event
abbrev pub volume_step : ℕ → Own → ℕ
volume_step v (Volume w) = w
volume_step v o = v

-- the volume after a list of own events, 0 at first
abbrev pub volume_after : List Own → ℕ
volume_after own = fold volume_step 0 own

-- an event of a job joins its own events, one of another job does not
abbrev pub adds : Bool → List Own → Own → List Own
adds mine own o = if mine then own ++ o ∷ [] else own

-- of a balancing a job keeps its volume, only where it differs from the one before
abbrev pub adds_volume : ℕ → List Own → List Own
adds_volume v own = if v == volume_after own then own else own ++ Volume v ∷ []

-- a job's own events after one more event of the hall: a leave takes its volume, an arrival gives it those that it brings
abbrev pub own_step : Key → List Own → Event → List Own
own_step j own (Open k ask) = adds (is_key j k) own (Opened ask)
own_step j own (Revise k number r) = adds (is_key j k) own (Revised r)
own_step j own (Reask k w) = adds (is_key j k) own (Reasked w)
own_step j own (Close k) = adds (is_key j k) own Closed
own_step j own (Balance shares) = adds_volume (volume_in j shares) own
own_step j own (Start k index worker) = adds (is_key j k) own (Started index)
own_step j own (Finish k index worker outcome) = adds (is_key j k) own (Finished index outcome)
own_step j own (Exchange k) = adds (is_key j k) own Exchanged
own_step j own (Leave k) = if is_key j k then adds_volume 0 own else own
own_step j own (Arrive k brought) = if is_key j k then brought else own

-- whether an event is the leave of a job
abbrev pub leaves : Key → Event → Bool
leaves j (Leave k) = is_key j k
leaves j event = false

-- whether an event is the arrival of a job
abbrev pub arrives : Key → Event → Bool
arrives j (Arrive k brought) = is_key j k
arrives j event = false

-- a job's own events in a history
abbrev pub own : Key → List Event → List Own
own j history = fold (own_step j) [] history

-- what a job brings where it goes: all that it did, and no volume
abbrev pub brought_by : Key → List Event → List Own
brought_by k past = adds_volume 0 (own k past)
