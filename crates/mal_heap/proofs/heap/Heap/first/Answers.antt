use Rattle.std.proofs.Common.{◌≡◌, ◌<◌, length, arith}
use Rattle.std.proofs.lemmas.List.{get_or_read}
use Rattle.mal_heap.specs.Rows.{at}
use Rattle.mal_heap.proofs.HeapedLemmas.{first-is, none-is}
use Rattle.mal_heap.proofs.heap.Heap.first.Goals as goal

pub returns-then-self-eq0 : goal.returns-then-self-eq0
returns-then-self-eq0 c =
    let o = c.self.inside in
    rw (← c.self.view_is) (none-is o.index o.activities.items o.row.items.items o.row.places.items o.count c.self.invariant.0 (omega arith))

pub returns-else-self-eq0 : goal.returns-else-self-eq0
returns-else-self-eq0 c =
    let o = c.self.inside in
    let h = c.self.invariant.0 in
    let some : 0 < o.count = omega arith in
    let low : 0 < length o.row.items.items = omega (arith, h.within) in
    let a : c.index.result.now ≡ at o.row.items.items 0 = get_or_read o.row.items.items 0 c.index.result.now low c.index.ensures 0 in
    rw (← c.self.view_is, a) (first-is o.index o.activities.items o.row.items.items o.row.places.items o.count h some)
