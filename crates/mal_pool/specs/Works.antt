use Rattle.std.specs.Prelude.{◌≡◌, ℕ, ◌+◌, ◌-◌, ◌<◌, List, [], ◌∷◌, Option, Some, None, Ok, Err}
use Rattle.spec_job.specs.Leased.{Finished}
use Rattle.mal_base.specs.declared.hall_fault.PickFault.TheVariants as faults
use Rattle.spec_hall.specs.Calls as calls
use Rattle.spec_hall.specs.Calls.{Handed, Leased, Return}
use Rattle.mal_hall.specs.Desks.{DeskCall, Picked, Gave, Posted, IsWorked}
use Rattle.mal_pool.specs.Gates.{Stops, Passes, Halts}
use Rattle.mal_pool.specs.declared.working.End.{End}
use Rattle.mal_pool.specs.declared.working.End.TheVariants as ends
use Rattle.mal_pool.specs.declared.working.Turned.{Turned}
use Rattle.mal_pool.specs.declared.working.Turned.TheVariants as turned

-- one turn of a worker's loop: a pick, and where it leased and the gate let the worker pass the giving back of that
-- lease, worked
abbrev pub IsTurn : Stops → ℕ → List DeskCall → Turned → Type 0
IsTurn stops w mine turned.Worked = (l : Handed) × (d : Finished) × Passes stops w l × IsWorked l d × (mine ≡ Picked w (Ok (Leased l)) ∷ Gave d calls.Back ∷ [])
IsTurn stops w mine turned.Idle = mine ≡ Picked w (Ok calls.Idle) ∷ []
IsTurn stops w mine (turned.Ended ends.AllDone) = mine ≡ Picked w (Ok calls.AllDone) ∷ []
IsTurn stops w mine (turned.Ended ends.Busy) = mine ≡ Picked w (Err faults.Busy) ∷ []
IsTurn stops w mine (turned.Ended ends.OutOfMemory) = mine ≡ Picked w (Err faults.OutOfMemory) ∷ []
IsTurn stops w mine (turned.Ended ends.Strange) = (l : Handed) × (d : Finished) × (kept : Option ℕ) × Passes stops w l × IsWorked l d × (mine ≡ Picked w (Ok (Leased l)) ∷ Gave d (calls.Strange kept) ∷ [])
IsTurn stops w mine (turned.Ended ends.Stopped) = (l : Handed) × Halts stops w l × (mine ≡ Picked w (Ok (Leased l)) ∷ [])
IsTurn stops w mine (turned.Ended ends.Idle) = ⊥
IsTurn stops w mine (turned.Ended ends.Spent) = ⊥

-- what a turn comes to whose lease was given back with this answer
abbrev pub turned_by : Return → Turned
turned_by calls.Back = turned.Worked
turned_by (calls.Strange kept) = turned.Ended ends.Strange

-- a further pick may come where turns are left and fewer than 1,000 answers in a row were idle
abbrev pub MayPick : ℕ → ℕ → Type 0
MayPick left idles = (0 < left) × (idles < 1000)

-- the end of a loop that picks no more
abbrev pub Rests : ℕ → ℕ → End → Type 0
Rests left idles ends.Idle = idles ≡ 1000
Rests left idles ends.Spent = (left ≡ 0) × (idles < 1000)
Rests left idles ends.AllDone = ⊥
Rests left idles ends.Busy = ⊥
Rests left idles ends.Strange = ⊥
Rests left idles ends.Stopped = ⊥
Rests left idles ends.OutOfMemory = ⊥

-- the calls of a worker's loop from here on and its end: so many turns are left, so many answers in a row were idle,
-- and this lease is owed
abbrev pub Works : Stops → ℕ → ℕ → ℕ → Option Handed → List DeskCall → End → Type 0
Works stops w left idles None [] end = Rests left idles end
Works stops w left idles None (Picked v (Ok (Leased l)) ∷ more) end = (v ≡ w) × MayPick left idles × Works stops w (left - 1) 0 (Some l) more end
Works stops w left idles None (Picked v (Ok calls.Idle) ∷ more) end = (v ≡ w) × MayPick left idles × Works stops w (left - 1) (idles + 1) None more end
Works stops w left idles None (Picked v (Ok calls.AllDone) ∷ more) end = (v ≡ w) × MayPick left idles × (more ≡ []) × (end ≡ ends.AllDone)
Works stops w left idles None (Picked v (Err faults.Busy) ∷ more) end = (v ≡ w) × MayPick left idles × (more ≡ []) × (end ≡ ends.Busy)
Works stops w left idles None (Picked v (Err faults.OutOfMemory) ∷ more) end = (v ≡ w) × MayPick left idles × (more ≡ []) × (end ≡ ends.OutOfMemory)
Works stops w left idles None (Gave d answer ∷ more) end = ⊥
Works stops w left idles None (Posted p answer ∷ more) end = ⊥
Works stops w left idles (Some l) [] end = Halts stops w l × (end ≡ ends.Stopped)
Works stops w left idles (Some l) (Picked v answer ∷ more) end = ⊥
Works stops w left idles (Some l) (Gave d calls.Back ∷ more) end = Passes stops w l × IsWorked l d × Works stops w left idles None more end
Works stops w left idles (Some l) (Gave d (calls.Strange kept) ∷ more) end = Passes stops w l × IsWorked l d × (more ≡ []) × (end ≡ ends.Strange)
Works stops w left idles (Some l) (Posted p answer ∷ more) end = ⊥
