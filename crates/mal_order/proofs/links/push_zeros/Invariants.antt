use Rattle.std.proofs.Common.{◌≡◌, ◌+◌, ◌++◌, replicate, vec_len, vec_capacity}
use Rattle.mal_order.proofs.links.push_zeros.Given as goal

abbrev pub invariant-loop-place : goal.invariant-loop-place
invariant-loop-place l =
    record {
      items : l.list.items ≡ l.fn.list.items ++ replicate l._place 0;
      len : vec_len l.list ≡ vec_len l.fn.list + l._place;
      capacity : vec_capacity l.list ≡ vec_capacity l.fn.list;
    }
