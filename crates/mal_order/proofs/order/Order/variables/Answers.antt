use Rattle.std.proofs.Common.{◌≡◌, suc, ◌+◌, ◌<◌, length, sym, arith}
use Rattle.std.proofs.lemmas.List.{take_more}
use Rattle.mal_order.proofs.order.Order.variables.Goals as goal

pub loop-place-preserved : goal.loop-place-preserved
loop-place-preserved c =
    let inv = c.loop-place.invariant in
    let list = c.self.inside.ring.list in
    let low : c.loop-place._place < length list = omega arith in
    let next = c.next-mark.ensures.within c.loop-place._place inv.mark low in
    let one : c.loop-place._place + 1 ≡ suc c.loop-place._place = omega arith in
    record {
      items = rw (c.push_reserved.ensures.items, inv.items, c.of.ensures, next.0) (sym (take_more list c.loop-place._place 0 low));
      mark = rw one next.0;
      len = omega (arith, c.push_reserved.ensures.len, inv.len);
      capacity = omega (arith, c.push_reserved.ensures.capacity, inv.capacity);
    }
