use Rattle.std.proofs.Common.{◌≡◌, ◌≤◌, count_by, take}
use Rattle.spec_job.specs.SoloMachine.{is_for}
use Rattle.mal_job.proofs.tree.Tree.out_count.Given as goal

abbrev pub invariant-loop-place : goal.invariant-loop-place
invariant-loop-place l =
    record {
      counted : l.count ≡ count_by (λ p. is_for l.revision p.out) (take l.place-index l.place-items);
      few : l.count ≤ l.place-index;
    }
