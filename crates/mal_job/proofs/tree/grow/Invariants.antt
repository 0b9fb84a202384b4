use Rattle.std.proofs.Common.{◌≡◌, ◌≤◌, length}
use Rattle.std.specs.Vec.{vec_capacity}
use Rattle.mal_job.specs.Placing.{IsGrown}
use Rattle.mal_job.proofs.tree.grow.Given as goal

abbrev pub invariant-loop-index : goal.invariant-loop-index
invariant-loop-index l =
    record {
      grown : IsGrown l.number l.profile l.fn.places.items l.places.items;
      len : length l.places.items ≡ l.index;
      few : length l.places.items ≤ 64;
      room : l.count ≤ vec_capacity l.places;
    }
