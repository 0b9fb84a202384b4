use Rattle.std.proofs.Common.{◌≡◌, ◌-◌, length, take}
use Rattle.spec_node.specs.Cut.{saved}
use Rattle.mal_cdcl.proofs.node_load.save.Given as goal

abbrev pub invariant-loop-made : goal.invariant-loop-made
invariant-loop-made l =
    record {
      done : saved l.phases (take (length l.removed - l.made) l.removed) ≡ saved l.fn.phases l.removed;
      len : length l.phases ≡ length l.fn.phases;
    }
