use Rattle.std.specs.Prelude.{◌≡◌, ℕ, ◌≤◌, ◌*◌, ◌+◌, true}
use Rattle.spec_node.specs.State.{Node, has_profile}
use Rattle.spec_node.specs.Sound.{IsSound}

-- a sound node of one of the profiles, whose counts are no higher than so many slices make them
pub record HasRun (slices : ℕ) (n : Node) : Type 0 where
  pub sound : IsSound n
  pub conflicts_since_restart : n.conflicts_since_restart ≤ 1000 * slices
  pub restart_number : n.restart_number ≤ 1000 * slices + 1
  pub serial : n.serial ≤ 1000 * slices
  pub conflicts_since_dropping : n.conflicts_since_dropping ≤ 1000 * slices
  pub profile : has_profile n ≡ true
