use Rattle.std.specs.Prelude.{◌≡◌, ℕ, ◌+◌, ◌-◌, ◌*◌, ◌<◌, ◌≤◌, true, List, length}
use Rattle.mal_base.specs.declared.verdict.Outcome.{Outcome}
use Rattle.mal_base.specs.declared.verdict.Outcome.TheVariants.{Ran, Starved, Lost}
use Rattle.spec_job.specs.SoloMachine.{Own, Started, Finished, SoloMachine, solo, solo_step, startable}

-- what a job may still run, at the most: for each revision without an answer the slices of its budget and three starts
-- that run out of memory, without those of the current revision that were
abbrev pub left_of : SoloMachine → ℕ
left_of s = (length s.revisions - length s.answers) * (s.ask.slices + 3) - s.spent - s.starved

-- the machine after a start of the node at an index and its finish
abbrev pub after_start : SoloMachine → ℕ → Outcome → SoloMachine
after_start s i outcome = solo_step (solo_step s (Started i)) (Finished i outcome)

-- a start that ran or ran out of memory leaves less to run, and one that was lost as much as before
pub record StartsLeaveLess (s : SoloMachine) (i : ℕ) : Type 0 where
  pub begun : left_of (solo_step s (Started i)) ≡ left_of s
  pub ran : left_of (after_start s i Ran) < left_of s
  pub starved : left_of (after_start s i Starved) < left_of s
  pub lost : left_of (after_start s i Lost) ≡ left_of s

-- so it is of each node that may start, whatever own events came before
abbrev pub LeftFalls : Type 0
LeftFalls = (events : List Own) (i : ℕ) → i ≤ 63 → startable (solo events) i ≡ true → StartsLeaveLess (solo events) i
