use Rattle.std.specs.Prelude.{◌≡◌, ℕ, ◌≤◌, List, ◌++◌, length, filter, flat_map}
use Rattle.spec_job.specs.SoloMachine.{Own, Slice, SoloMachine, solo}

-- how many of these slices answered a revision
abbrev pub ends_in : List Slice → ℕ
ends_in slices = length (filter (λ c. c.ends) slices)

-- the log of a machine has the lines of its slices, one slice after another
abbrev pub LogsAreSlices : Type 0
LogsAreSlices = (events : List Own) → (solo events).log ≡ flat_map (λ c. c.lines) (solo events).slices

-- no more slices answered than there are answers
abbrev pub EndsAreFew : Type 0
EndsAreFew = (events : List Own) → ends_in (solo events).slices ≤ length (solo events).answers

-- the slices of a later state begin with those of an earlier one
pub record KeepsSlices (before after : SoloMachine) : Type 0 where
  pub more : List Slice
  pub kept : after.slices ≡ before.slices ++ more

-- a slice that was run stays, whatever own events follow
abbrev pub SlicesStay : Type 0
SlicesStay = (past later : List Own) → KeepsSlices (solo past) (solo (past ++ later))
