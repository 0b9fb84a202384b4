use Rattle.std.proofs.Common.{◌≡◌, true, take}
use Rattle.std.specs.List.{list_all}
use Rattle.spec_node.specs.Value.{has_value}
use Rattle.mal_order.proofs.order.Order.first_free.Given as goal

abbrev pub invariant-loop-place : goal.invariant-loop-place
invariant-loop-place g l =
    record {
      index : l.self.index ≡ l.fn.self.index;
      list : l.self.list ≡ l.fn.self.list;
      room : l.self.room ≡ l.fn.self.room;
      place : l.self.passed ≡ l._place;
      valued : list_all (has_value (g.T.TrailView.entries l.trail)) (take l.self.passed l.self.list) ≡ true;
    }
