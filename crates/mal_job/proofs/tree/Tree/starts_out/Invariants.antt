use Rattle.std.proofs.Common.{◌≡◌, ◌≤◌, count_by, take}
use Rattle.std.specs.Prelude.{is_some}
use Rattle.mal_job.proofs.tree.Tree.starts_out.Given as goal

abbrev pub invariant-loop-place : goal.invariant-loop-place
invariant-loop-place l =
    record {
      counted : l.count ≡ count_by (λ p. is_some p.out) (take l.place-index l.place-items);
      few : l.count ≤ l.place-index;
    }
