use Rattle.std.proofs.Common.{◌≡◌, ◌≤◌, ◌∷◌, take, length, get_or, vec_len, vec_capacity}
use Rattle.mal_order.proofs.order.Order.variables.Given as goal

abbrev pub invariant-loop-place : goal.invariant-loop-place
invariant-loop-place l =
    record {
      items : l.list.items ≡ take l._place l.self-inside.ring.list;
      mark : l.mark ≡ get_or (0 ∷ l.self-inside.ring.list) l._place 0;
      len : vec_len l.list ≡ l._place;
      capacity : length l.self-inside.ring.list ≤ vec_capacity l.list;
    }
