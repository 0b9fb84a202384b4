use Rattle.std.proofs.Common.{◌≡◌, ◌<◌, ◌∙◌, true, false, length, sym, arith}
use Rattle.std.proofs.lemmas.List.{get_or_read}
use Rattle.mal_heap.specs.Rows.{at}
use Rattle.mal_heap.proofs.RowLemmas.{beside-inside}
use Rattle.mal_heap.proofs.HeapLemmas.{down-step, down-ends, child-follows}
use Rattle.mal_heap.proofs.sift.sink.Goals as goal

pub child-below-requires-clause-long : goal.child-below-requires-clause-long
child-below-requires-clause-long c = c.requires.long ∙ sym c.loop-place.invariant.long

pub outranks-requires-clause-first : goal.outranks-requires-clause-first
outranks-requires-clause-first c =
    let inv = c.loop-place.invariant in
    let xs = c.loop-place.row.items.items in
    let p = c.child-below.result in
    let low : p < length xs = omega (arith, c.child-below.ensures.within, inv.within) in
    let a : c.index-item.result.now ≡ at xs p = get_or_read xs p c.index-item.result.now low c.index-item.ensures 0 in
    rw a (omega (arith, inv.row.below p low, inv.long, c.requires.long))

pub outranks-requires-clause-second : goal.outranks-requires-clause-second
outranks-requires-clause-second c =
    let inv = c.loop-place.invariant in
    let xs = c.loop-place.row.items.items in
    let p = c.loop-place.place in
    let low : p < length xs = omega (arith, inv.within) in
    let a : c.index.result.now ≡ at xs p = get_or_read xs p c.index.result.now low c.index.ensures 0 in
    rw a (omega (arith, inv.row.below p low, inv.long, c.requires.long))

pub returns-then-not-outranks-clause-heap : goal.returns-then-not-outranks-clause-heap
returns-then-not-outranks-clause-heap c =
    let inv = c.loop-place.invariant in
    let xs = c.loop-place.row.items.items in
    let p = c.loop-place.place in
    let k = c.child-below.result in
    let low : k < length xs = omega (arith, c.child-below.ensures.within, inv.within) in
    let up : p < length xs = omega (arith, inv.within) in
    let a : c.index-item.result.now ≡ at xs k = get_or_read xs k c.index-item.result.now low c.index-item.ensures 0 in
    let b : c.index.result.now ≡ at xs p = get_or_read xs p c.index.result.now up c.index.ensures 0 in
    let t : c.outranks.result ≡ false = cc in
    let e = rw (a, b) at c.outranks.ensures in
    down-ends c.args.index c.args.activities.now xs c.args.count p (child-follows c.args.index c.args.activities.now xs c.args.count p k c.child-below.ensures (sym e ∙ t)) inv.down

pub loop-place-smaller : goal.loop-place-smaller
loop-place-smaller c = omega (arith, c.child-below.ensures.below, c.child-below.ensures.within)

pub loop-place-preserved : goal.loop-place-preserved
loop-place-preserved c =
    let inv = c.loop-place.invariant in
    let xs = c.loop-place.row.items.items in
    let p = c.loop-place.place in
    let k = c.child-below.result in
    let child = c.child-below.ensures in
    let low : k < length xs = omega (arith, child.within, inv.within) in
    let up : p < length xs = omega (arith, inv.within) in
    let a : c.index-item.result.now ≡ at xs k = get_or_read xs k c.index-item.result.now low c.index-item.ensures 0 in
    let b : c.index.result.now ≡ at xs p = get_or_read xs p c.index.result.now up c.index.ensures 0 in
    let t : c.outranks.result ≡ true = cc in
    let e = rw (a, b) at c.outranks.ensures in
    let s = c.swap.ensures in
    record {
      row = s.row;
      long = s.long ∙ inv.long;
      within = omega (arith, s.row.same, s.long, inv.row.same, inv.within);
      place = omega (arith, child.within);
      down = down-step c.args.index c.args.activities.now xs c.swap.new.self.items.items c.args.count p k child (sym e ∙ t) s.swapped inv.down;
      inside = s.inside c.args.count (beside-inside p k c.args.count (omega arith) child.within) ∙ inv.inside;
      items = s.items ∙ inv.items;
      places = s.places ∙ inv.places;
    }

pub returns-clause-heap : goal.returns-clause-heap
returns-clause-heap c =
    let inv = c.loop-place.invariant in
    down-ends c.args.index c.args.activities.now c.loop-place.row.items.items c.args.count c.loop-place.place (λ k some low q. absurd (omega arith)) inv.down
