-- Posts that are refused for another cause than out of memory.
use Rattle.std.specs.Prelude.{◌≡◌, ◌⊎◌, ℕ, Bool, true, false, List, [], ◌∷◌, ◌++◌, Err}
use Rattle.mal_base.specs.declared.hall_fault.OpenFault.{OpenFault}
use Rattle.mal_base.specs.declared.hall_fault.OpenFault.TheVariants as opening
use Rattle.mal_base.specs.declared.hall_fault.ReviseFault.{ReviseFault}
use Rattle.mal_base.specs.declared.hall_fault.ReviseFault.TheVariants as revising
use Rattle.mal_base.specs.declared.hall_fault.ReaskFault.{ReaskFault}
use Rattle.mal_base.specs.declared.hall_fault.ReaskFault.TheVariants as reasking
use Rattle.mal_hall.specs.declared.desk.Post.{Post}
use Rattle.mal_hall.specs.declared.desk.PostFault.{PostFault}
use Rattle.mal_hall.specs.declared.desk.PostFault.TheVariants as faults
use Rattle.mal_hall.specs.Desks.{DeskCall, Posted, HasPosted, event_of}
use Rattle.spec_hall.specs.Events.{Event}

-- whether a job is not opened when out of memory
abbrev pub is_opening_want : OpenFault → Bool
is_opening_want opening.Duplicate = false
is_opening_want opening.TenantFull = false
is_opening_want opening.HallFull = false
is_opening_want opening.OutOfMemory = true

-- whether a revision is not posted when out of memory
abbrev pub is_revising_want : ReviseFault → Bool
is_revising_want revising.NoJob = false
is_revising_want revising.Closed = false
is_revising_want revising.RevisionsFull = false
is_revising_want (revising.JobFull which) = false
is_revising_want revising.OutOfMemory = true

-- whether an ask is not changed when out of memory
abbrev pub is_reasking_want : ReaskFault → Bool
is_reasking_want reasking.NoJob = false
is_reasking_want reasking.Closed = false
is_reasking_want reasking.OutOfMemory = true

-- whether a post is refused when out of memory
abbrev pub is_want : PostFault → Bool
is_want (faults.Open fault) = is_opening_want fault
is_want (faults.Revise fault) = is_revising_want fault
is_want (faults.Reask fault) = is_reasking_want fault
is_want (faults.Close fault) = false

-- after a history a post is refused for another cause
abbrev pub IsRefused : ℕ → List Event → Post → Type 0
IsRefused workers past p = (fault : PostFault) × (is_want fault ≡ false) × HasPosted workers past p (Err fault) past

-- one of these posts is, after those before it
abbrev pub IsOneRefused : ℕ → List Event → List Post → Type 0
IsOneRefused workers past [] = ⊥
IsOneRefused workers past (p ∷ ps) = IsRefused workers past p ⊎ IsOneRefused workers (past ++ event_of past p ∷ []) ps

-- the last of these calls is a post that was refused: when out of memory, or for another cause
abbrev pub EndsRefused : Bool → List DeskCall → Type 0
EndsRefused want calls = (before : List DeskCall) × (p : Post) × (fault : PostFault) × (is_want fault ≡ want) × (calls ≡ before ++ Posted p (Err fault) ∷ [])
