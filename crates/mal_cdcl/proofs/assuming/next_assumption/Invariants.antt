use Rattle.std.proofs.Common.{◌≡◌, true, take}
use Rattle.std.specs.List.{list_all}
use Rattle.spec_node.specs.Value.{is_true}
use Rattle.mal_cdcl.proofs.assuming.next_assumption.Given as goal

abbrev pub invariant-loop-place : goal.invariant-loop-place
invariant-loop-place l =
    record {
      place : l.passed ≡ l.place;
      passed : list_all (is_true l.trail.entries) (take l.passed l.assumptions) ≡ true;
    }
