use Rattle.std.specs.Prelude.{◌≡◌, ℕ, ◌+◌, ◌≤◌, List, [], ◌∷◌, ◌++◌, replicate, Option, None, Ok, Err}
use Rattle.spec_job.specs.Leased.{Finished}
use Rattle.mal_base.specs.declared.hall_fault.PickFault.TheVariants as faults
use Rattle.spec_hall.specs.Calls as calls
use Rattle.spec_hall.specs.Calls.{Handed, Leased}
use Rattle.mal_hall.specs.Desks.{DeskCall, Picked, Gave, Posted}
use Rattle.mal_pool.specs.Gates.{Stops, Halts}
use Rattle.mal_pool.specs.Works.{Works}
use Rattle.mal_pool.specs.declared.working.End.{End}
use Rattle.mal_pool.specs.declared.working.End.TheVariants as ends

-- how many of the calls are picks
abbrev pub picks : List DeskCall → ℕ
picks [] = 0
picks (Picked w answer ∷ more) = picks more + 1
picks (Gave d answer ∷ more) = picks more
picks (Posted p answer ∷ more) = picks more

-- the calls end with this one
abbrev pub EndsWith : List DeskCall → DeskCall → Type 0
EndsWith mine c = (front : List DeskCall) × (mine ≡ front ++ c ∷ [])

-- idle: the last 1,000 calls were picks that were answered idle; spent: so many picks were made as there were turns;
-- stopped: the last call was a pick, and the gate stops the worker with that lease. Every other end is the last answer
abbrev pub EndSays : Stops → ℕ → ℕ → List DeskCall → End → Type 0
EndSays stops w turns mine ends.Idle = (front : List DeskCall) × (mine ≡ front ++ replicate 1000 (Picked w (Ok calls.Idle)))
EndSays stops w turns mine ends.Spent = picks mine ≡ turns
EndSays stops w turns mine ends.AllDone = EndsWith mine (Picked w (Ok calls.AllDone))
EndSays stops w turns mine ends.Busy = EndsWith mine (Picked w (Err faults.Busy))
EndSays stops w turns mine ends.OutOfMemory = EndsWith mine (Picked w (Err faults.OutOfMemory))
EndSays stops w turns mine ends.Stopped = (l : Handed) × Halts stops w l × EndsWith mine (Picked w (Ok (Leased l)))
EndSays stops w turns mine ends.Strange = (d : Finished) × (kept : Option ℕ) × EndsWith mine (Gave d (calls.Strange kept))

-- a worker's loop that made these calls ends so
abbrev pub LoopsEndSo : Type 0
LoopsEndSo = (stops : Stops) (w turns : ℕ) (mine : List DeskCall) (end : End) → Works stops w turns 0 None mine end → EndSays stops w turns mine end

-- no loop picks more often than it has turns
abbrev pub LoopsAreBounded : Type 0
LoopsAreBounded = (stops : Stops) (w turns : ℕ) (mine : List DeskCall) (end : End) → Works stops w turns 0 None mine end → picks mine ≤ turns
