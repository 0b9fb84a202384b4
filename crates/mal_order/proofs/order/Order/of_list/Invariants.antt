use Rattle.std.proofs.Common.{◌≡◌, ◌+◌, take, length}
use Rattle.mal_order.proofs.order.Order.of_list.Given as goal

abbrev pub invariant-loop-var : goal.invariant-loop-var
invariant-loop-var l =
    record {
      done : l.ring.list ≡ take l.var-index l.list;
      places : l.ring.places ≡ length l.list + 1;
    }
