use Rattle.std.proofs.Common.{◌≡◌, ℕ, ◌<◌, ◌⊎◌, take, true}
use Rattle.std.specs.Prelude.{slice_index}
use Rattle.spec_node.specs.Value.{is_false}
use Rattle.mal_watch.proofs.walk.first_replacement.Given as goal

abbrev pub invariant-loop-place : goal.invariant-loop-place
invariant-loop-place l = (k : ℕ) → k < l.place → (slice_index l.lits k ≡ l.other) ⊎ (is_false (take l.count l.trail.entries) (slice_index l.lits k) ≡ true)
