-- What each part of a run does.
use Rattle.std.specs.Prelude.{◌≡◌, ℕ, zero, suc, ◌≤◌, ◌<◌, Bool, true, false, List, [], ◌++◌, length, map, min, max, fold, sum_by, slice_get, Option, Some, None}
use Rattle.std.specs.Option.{option_map}
use Rattle.mal_hall.specs.Desks.{DeskCall}
use Rattle.mal_pool.specs.Gates.{Stops}
use Rattle.mal_pool.specs.Runs.{HasPosted}
use Rattle.mal_pool.specs.Works.{Works}
use Rattle.mal_pool.specs.declared.role.Part.{Part}
use Rattle.mal_pool.specs.declared.role.Part.TheVariants as parts
use Rattle.mal_pool.specs.declared.working.End.{End}
use Rattle.mal_pool.specs.declared.working.End.TheVariants as ends
use Rattle.mal_pool.specs.declared.posting.Hindered.{Hindered}
use Rattle.spec_node.specs.Load.{counted}
use Rattle.spec_script.specs.Formed.{tenants_of}
use Rattle.spec_script.specs.Script.{ScriptedJob}
use Rattle.spec_script.specs.declared.step.Step.{Step}
use Rattle.spec_script.specs.declared.step.Step.TheVariants as steps

-- the most workers that a job asks for at a time, after one more step: a new ask may raise it
abbrev pub most_after : ℕ → Step → ℕ
most_after most (steps.Revise r) = most
most_after most (steps.Reask w) = max most w.demand

-- the most workers that a job asks for at a time, by its opening or by a new ask
abbrev pub most_of : ScriptedJob → ℕ
most_of j = fold most_after j.ask.demand j.steps

-- how many workers jobs can use together
abbrev pub demand_of : List ScriptedJob → ℕ
demand_of jobs = sum_by most_of jobs

-- the tenant of the job at a place
abbrev pub tenant_at : List ScriptedJob → ℕ → Option (List ℕ)
tenant_at jobs place = option_map (λ j. j.tenant) (slice_get jobs place)

-- the posters of a run of these jobs: one for each tenant, at a job of the tenant
pub record ArePosters (jobs : List ScriptedJob) (posters : List Part) : Type 0 where
  pub places : List ℕ
  pub are : posters ≡ map parts.Poster places
  pub tenants : map (tenant_at jobs) places ≡ map Some (tenants_of jobs)

-- its workers: of so many those that the jobs can use, by their numbers
abbrev pub workers_for : ℕ → List ScriptedJob → List Part
workers_for workers jobs = map parts.Worker (counted 1 (min workers (demand_of jobs)))

-- all its parts: the posters, and then the workers
abbrev pub AreParts : ℕ → List ScriptedJob → List Part → Type 0
AreParts workers jobs all = (posters : List Part) × ArePosters jobs posters × (all ≡ posters ++ workers_for workers jobs)

-- a part that a hall of so many workers has in a run of these jobs
abbrev pub Fits : ℕ → List ScriptedJob → Part → Type 0
Fits workers jobs (parts.Poster place) = place < length jobs
Fits workers jobs (parts.Worker number) = (1 ≤ number) × (number ≤ workers)

-- whether a loop ended idle
abbrev pub is_idle : End → Bool
is_idle ends.AllDone = false
is_idle ends.Idle = true
is_idle ends.Spent = false
is_idle ends.Busy = false
is_idle ends.Strange = false
is_idle ends.Stopped = false
is_idle ends.OutOfMemory = false

-- whether a loop ended where the gate stopped its worker
abbrev pub is_stop : End → Bool
is_stop ends.AllDone = false
is_stop ends.Idle = false
is_stop ends.Spent = false
is_stop ends.Busy = false
is_stop ends.Strange = false
is_stop ends.Stopped = true
is_stop ends.OutOfMemory = false

-- the one where it holds, else the other
abbrev pub by_test : Bool → Type 0 → Type 0 → Type 0
by_test true One Other = One
by_test false One Other = Other

-- the calls of a worker, for which so many loops of so many turns are left, and whether the gate stops it: after a loop
-- that ends idle comes another, and the last tells whether it ended where the gate stopped the worker
unfoldable pub AreLoops : Stops → ℕ → ℕ → ℕ → List DeskCall → Bool → Type 0
AreLoops stops w turns zero mine stopped = (mine ≡ []) × (stopped ≡ false)
AreLoops stops w turns (suc left) mine stopped =
    (one rest : List DeskCall) × (end : End) × (mine ≡ one ++ rest) × Works stops w turns 0 None one end
    × by_test (is_idle end) (AreLoops stops w turns left rest stopped) ((rest ≡ []) × (stopped ≡ is_stop end))

-- what a part did: a poster posted the jobs of its tenant up to the place at which it was hindered, and a worker worked
-- through 33 loops of 2^20 turns at most and was not
abbrev pub HasPlayed : Stops → List ScriptedJob → Part → Option Hindered → Bool → List DeskCall → Type 0
HasPlayed stops jobs (parts.Poster place) hindered stopped mine =
    (stopped ≡ false) × ((j : ScriptedJob) × (slice_get jobs place ≡ Some j) × HasPosted j.tenant jobs hindered mine)
HasPlayed stops jobs (parts.Worker number) hindered stopped mine = (hindered ≡ None) × AreLoops stops number 1048576 33 mine stopped
