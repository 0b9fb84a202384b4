-- How a run by many came about.
use Rattle.std.specs.Prelude.{◌⊎◌, ℕ, Bool, List, map, Option}
use Rattle.std.specs.List.{All, filter_map}
use Rattle.std.specs.Option.{option_map}
use Rattle.mal_hall.specs.Desks.{DeskCall}
use Rattle.mal_pool.specs.Calls.{calls_of}
use Rattle.mal_pool.specs.Gates.{Stops}
use Rattle.mal_pool.specs.Parts.{AreParts, HasPlayed}
use Rattle.mal_pool.specs.Runs.{IsSettled, open_post, taken}
use Rattle.mal_pool.specs.Within.{IsWithin}
use Rattle.mal_pool.specs.declared.posting.Hindered.{Hindered}
use Rattle.mal_pool.specs.declared.role.Part.{Part}
use Rattle.mal_service.specs.Passes.{LeavesHall}
use Rattle.spec_hall.specs.Driven.{IsDriven}
use Rattle.spec_hall.specs.Events.{Event}
use Rattle.spec_run.specs.Complete.{script_events}
use Rattle.spec_script.specs.Script.{Scripted, ScriptedJob}

-- a part, what hindered it, whether the gate stopped it, and the calls that it made
pub record Play : Type 0 where
  pub part : Part
  pub hindered : Option Hindered
  pub stopped : Bool
  pub calls : List DeskCall

-- the part was played so, and its calls stand among all calls, in their order
pub record IsPlayedIn (stops : Stops) (jobs : List ScriptedJob) (all : List DeskCall) (p : Play) : Type 0 where
  pub played : HasPlayed stops jobs p.part p.hindered p.stopped p.calls
  pub within : IsWithin p.calls all

-- all jobs of a script were opened, and all parts of its run played, among all calls; of the history after these came
-- this one, once what the posters left was posted, what was out was recalled, and the rest was driven
pub record IsShared (stops : Stops) (workers : ℕ) (jobs : List ScriptedJob) (all : List DeskCall) (before now : List Event) : Type 0 where
  pub plays : List Play
  pub parts : AreParts workers jobs (map (λ p. p.part) plays)
  pub opened : IsWithin (taken (map open_post jobs)) all
  pub played : All (IsPlayedIn stops jobs all) plays
  pub settled : IsSettled workers jobs (filter_map (λ p. option_map (λ h. h.left) p.hindered) plays) before now

-- a run of a script came by one thread; or it was shared, at a board which left the history that was settled, with a pass
-- that tells all calls
abbrev pub HasCome : {P : Type 0} → (P → List DeskCall) → (P → List Event → Type 0) → Stops → ℕ → Scripted → List Event → Type 0
HasCome {P = P} calls leaves stops workers s now =
    IsDriven workers (script_events s) now
    ⊎ ((pass : P) × ((before : List Event) × (leaves pass before × IsShared stops workers s.jobs (calls pass) before now)))

-- the same of a service, whose record is legal and has all calls
abbrev pub HasComeBy : Stops → ℕ → Scripted → List Event → Type 0
HasComeBy stops workers s now = HasCome calls_of (λ v before. LeavesHall workers before v) stops workers s now

-- a board that was closed left this history; its last pass tells the calls of this one, and of each of these
pub record HasClosed {P X : Type 0} (calls : P → List DeskCall) (leaves : P → List Event → Type 0) (pass : P) (calls_by : X → List DeskCall) (played : List X) (before : List Event) : Type 0 where
  pub last : P
  pub left : leaves last before
  pub mine : IsWithin (calls pass) (calls last)
  pub each : All (λ x. IsWithin (calls_by x) (calls last)) played
