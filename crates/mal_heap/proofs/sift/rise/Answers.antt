use Rattle.std.proofs.Common.{◌≡◌, ◌<◌, ◌∙◌, true, false, length, sym, arith}
use Rattle.std.proofs.lemmas.List.{get_or_read}
use Rattle.mal_heap.specs.Rows.{at}
use Rattle.mal_heap.specs.Heaps.{parent}
use Rattle.mal_heap.proofs.RowLemmas.{beside-inside}
use Rattle.mal_heap.proofs.HeapLemmas.{up-step, up-ends}
use Rattle.mal_heap.proofs.sift.rise.Goals as goal

pub outranks-requires-clause-first : goal.outranks-requires-clause-first
outranks-requires-clause-first c =
    let inv = c.loop-place.invariant in
    let xs = c.loop-place.row.items.items in
    let p = c.loop-place.place in
    let low : p < length xs = omega (arith, inv.place, inv.within) in
    let a : c.index-item.result.now ≡ at xs p = get_or_read xs p c.index-item.result.now low c.index-item.ensures 0 in
    rw a (omega (arith, inv.row.below p low, inv.long, c.requires.long))

pub outranks-requires-clause-second : goal.outranks-requires-clause-second
outranks-requires-clause-second c =
    let inv = c.loop-place.invariant in
    let xs = c.loop-place.row.items.items in
    let p = c.loop-place.place in
    let low : parent p < length xs = omega (arith, inv.place, inv.within) in
    let a : c.index.result.now ≡ at xs (parent p) = get_or_read xs (parent p) c.index.result.now low c.index.ensures 0 in
    rw a (omega (arith, inv.row.below (parent p) low, inv.long, c.requires.long))

pub returns-then-not-outranks-clause-heap : goal.returns-then-not-outranks-clause-heap
returns-then-not-outranks-clause-heap c =
    let inv = c.loop-place.invariant in
    let xs = c.loop-place.row.items.items in
    let p = c.loop-place.place in
    let low : p < length xs = omega (arith, inv.place, inv.within) in
    let up : parent p < length xs = omega (arith, inv.place, inv.within) in
    let a : c.index-item.result.now ≡ at xs p = get_or_read xs p c.index-item.result.now low c.index-item.ensures 0 in
    let b : c.index.result.now ≡ at xs (parent p) = get_or_read xs (parent p) c.index.result.now up c.index.ensures 0 in
    let t : c.outranks.result ≡ false = cc in
    let e = rw (a, b) at c.outranks.ensures in
    up-ends c.args.index c.args.activities.now xs c.args.count p (λ s. sym e ∙ t) inv.up

pub loop-place-preserved : goal.loop-place-preserved
loop-place-preserved c =
    let inv = c.loop-place.invariant in
    let xs = c.loop-place.row.items.items in
    let p = c.loop-place.place in
    let low : p < length xs = omega (arith, inv.place, inv.within) in
    let up : parent p < length xs = omega (arith, inv.place, inv.within) in
    let a : c.index-item.result.now ≡ at xs p = get_or_read xs p c.index-item.result.now low c.index-item.ensures 0 in
    let b : c.index.result.now ≡ at xs (parent p) = get_or_read xs (parent p) c.index.result.now up c.index.ensures 0 in
    let t : c.outranks.result ≡ true = cc in
    let e = rw (a, b) at c.outranks.ensures in
    let s = c.swap.ensures in
    record {
      row = s.row;
      long = s.long ∙ inv.long;
      within = omega (arith, s.row.same, s.long, inv.row.same, inv.within);
      place = omega (arith, inv.place);
      up = up-step c.args.index c.args.activities.now xs c.swap.new.self.items.items c.args.count p (omega arith) inv.place (sym e ∙ t) s.swapped inv.up;
      inside = s.inside c.args.count (beside-inside p (parent p) c.args.count inv.place (omega (arith, inv.place))) ∙ inv.inside;
      items = s.items ∙ inv.items;
      places = s.places ∙ inv.places;
    }

pub returns-clause-heap : goal.returns-clause-heap
returns-clause-heap c =
    let inv = c.loop-place.invariant in
    up-ends c.args.index c.args.activities.now c.loop-place.row.items.items c.args.count c.loop-place.place (λ s. absurd (omega arith)) inv.up
