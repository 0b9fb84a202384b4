use Rattle.std.proofs.Common.{◌≡◌, ℕ, ◌+◌, ◌-◌, ◌≤◌, ◌<◌, ◌++◌, length}
use Rattle.spec_node.specs.Load.{counted}
use Rattle.mal_order.specs.Rings.{IsApart}
use Rattle.mal_order.proofs.order.push_counted.Given as goal

abbrev pub invariant-loop-place : goal.invariant-loop-place
invariant-loop-place l =
    record {
      done : l.ring.list ++ counted (l.first + l.place) (l.count - l.place) ≡ l.fn.ring.list ++ counted l.first l.count;
      new : (v : ℕ) → l.first + l.place ≤ v → v < l.first + l.count → IsApart v l.ring.list;
      long : length l.ring.list ≡ length l.fn.ring.list + l.place;
      places : l.ring.places ≡ l.fn.ring.places;
      room : l.ring.room ≡ l.fn.ring.room;
    }
