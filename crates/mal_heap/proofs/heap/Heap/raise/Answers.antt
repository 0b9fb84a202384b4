use Rattle.std.proofs.Common.{◌≡◌, ◌-◌, ◌<◌, ◌≤◌, length, set, arith}
use Rattle.std.proofs.lemmas.List.{get_or_read, length-set}
use Rattle.mal_heap.specs.Rows.{at}
use Rattle.mal_heap.specs.Heaped.{IsVariable}
use Rattle.mal_heap.proofs.HeapedLemmas.{raised-inside, raised-away}
use Rattle.mal_heap.proofs.heap.Heap.raise.Goals as goal

pub rise-requires-clause-up : goal.rise-requires-clause-up
rise-requires-clause-up c =
    let o = c.self.inside in
    let h = c.self.invariant.0 in
    let is : IsVariable o.activities.items c.args.v = rw (← c.self.view_is) at c.requires.variable in
    let own : at o.activities.items (c.args.v - 1) ≤ c.args.activity = rw (← c.self.view_is) at c.requires.more in
    let low : c.args.v - 1 < length o.row.places.items = omega (arith, h.long, is.0, is.1) in
    let a : c.index-place.result.now ≡ at o.row.places.items (c.args.v - 1) = get_or_read o.row.places.items (c.args.v - 1) c.index-place.result.now low c.index-place.ensures 0 in
    rw (c.deref.ensures.value, a) (raised-inside o.index o.activities.items o.row.items.items o.row.places.items o.count (c.args.v - 1) c.args.activity h (omega (arith, is.0, is.1)) own)

pub invariant_of-self : goal.invariant_of-self
invariant_of-self c =
    let o = c.self.inside in
    let h = c.self.invariant.0 in
    let long : length (set o.activities.items (c.args.v - 1) c.args.activity) ≡ length o.activities.items = length-set o.activities.items (c.args.v - 1) c.args.activity in
    let items : length c.rise.new.row.items.items ≡ length o.row.items.items = omega (arith, c.rise.ensures.long, c.rise.ensures.row.same, h.row.same) in (
      record {
        row = c.rise.ensures.row;
        long = omega (arith, h.long, long, c.rise.ensures.long);
        few = omega (arith, h.few, long);
        within = omega (arith, h.within, items);
        order = rw c.deref.ensures.value at c.rise.ensures.heap;
      },
      (
        c.self.invariant.1.0,
        omega (arith, c.self.invariant.1.1, items, c.rise.ensures.items),
        omega (arith, c.self.invariant.1.2, c.rise.ensures.long, c.rise.ensures.places),
      ),
    )

pub invariant_of-self-else-place-self : goal.invariant_of-self-else-place-self
invariant_of-self-else-place-self c =
    let o = c.self.inside in
    let h = c.self.invariant.0 in
    let is : IsVariable o.activities.items c.args.v = rw (← c.self.view_is) at c.requires.variable in
    let own : at o.activities.items (c.args.v - 1) ≤ c.args.activity = rw (← c.self.view_is) at c.requires.more in
    let low : c.args.v - 1 < length o.row.places.items = omega (arith, h.long, is.0, is.1) in
    let a : c.index-place.result.now ≡ at o.row.places.items (c.args.v - 1) = get_or_read o.row.places.items (c.args.v - 1) c.index-place.result.now low c.index-place.ensures 0 in
    let long : length (set o.activities.items (c.args.v - 1) c.args.activity) ≡ length o.activities.items = length-set o.activities.items (c.args.v - 1) c.args.activity in (
      record {
        row = h.row;
        long = omega (arith, h.long, long);
        few = omega (arith, h.few, long);
        within = h.within;
        order = raised-away o.index o.activities.items o.row.items.items o.row.places.items o.count (c.args.v - 1) c.args.activity h (omega (arith, is.0, is.1)) own (omega (arith, a, c.if-place-self.false));
      },
      (c.self.invariant.1.0, c.self.invariant.1.1, c.self.invariant.1.2),
    )
