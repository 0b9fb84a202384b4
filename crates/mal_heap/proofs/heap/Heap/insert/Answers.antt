use Rattle.std.proofs.Common.{◌≡◌, ◌-◌, ◌<◌, ◌∙◌, length, ap, arith}
use Rattle.std.proofs.lemmas.List.{get_or_read}
use Rattle.mal_heap.specs.Rows.{at}
use Rattle.mal_heap.specs.Heaped.{IsVariable}
use Rattle.mal_heap.proofs.RowLemmas.{beside-outside}
use Rattle.mal_heap.proofs.HeapLemmas.{more}
use Rattle.mal_heap.proofs.HeapedLemmas.{inserted-inside, inserted-more}
use Rattle.mal_heap.proofs.heap.Heap.insert.Goals as goal

pub overflow_sub-v : goal.overflow_sub-v
overflow_sub-v c =
    let is : IsVariable c.self.inside.activities.items c.args.v = rw (← c.self.view_is) at c.requires in
    is.0

pub index-place-requires : goal.index-place-requires
index-place-requires c =
    let h = c.self.invariant.0 in
    let is : IsVariable c.self.inside.activities.items c.args.v = rw (← c.self.view_is) at c.requires in
    omega (arith, h.long, is.0, is.1)

pub returns-then-place-self-clause-inside : goal.returns-then-place-self-clause-inside
returns-then-place-self-clause-inside c =
    let o = c.self.inside in
    let h = c.self.invariant.0 in
    let is : IsVariable o.activities.items c.args.v = rw (← c.self.view_is) at c.requires in
    let low : c.args.v - 1 < length o.row.places.items = omega (arith, h.long, is.0, is.1) in
    let a : c.index-place.result.now ≡ at o.row.places.items (c.args.v - 1) = get_or_read o.row.places.items (c.args.v - 1) c.index-place.result.now low c.index-place.ensures 0 in
    rw (← c.self.view_is) (inserted-inside o.index o.activities.items o.row.items.items o.row.places.items o.count c.args.v h is (omega (arith, a, c.if-place-self.true)))

pub swap-requires-clause-row : goal.swap-requires-clause-row
swap-requires-clause-row c = let h = c.self.invariant.0 in h.row

pub swap-requires-clause-first : goal.swap-requires-clause-first
swap-requires-clause-first c =
    let o = c.self.inside in
    let h = c.self.invariant.0 in
    let is : IsVariable o.activities.items c.args.v = rw (← c.self.view_is) at c.requires in
    let low : c.args.v - 1 < length o.row.places.items = omega (arith, h.long, is.0, is.1) in
    let a : c.index-place.result.now ≡ at o.row.places.items (c.args.v - 1) = get_or_read o.row.places.items (c.args.v - 1) c.index-place.result.now low c.index-place.ensures 0 in
    rw a (h.row.within (c.args.v - 1) low)

pub swap-requires-clause-second : goal.swap-requires-clause-second
swap-requires-clause-second c =
    let o = c.self.inside in
    let h = c.self.invariant.0 in
    let is : IsVariable o.activities.items c.args.v = rw (← c.self.view_is) at c.requires in
    let low : c.args.v - 1 < length o.row.places.items = omega (arith, h.long, is.0, is.1) in
    let a : c.index-place.result.now ≡ at o.row.places.items (c.args.v - 1) = get_or_read o.row.places.items (c.args.v - 1) c.index-place.result.now low c.index-place.ensures 0 in
    omega (arith, a, h.row.within (c.args.v - 1) low, c.if-place-self.false)

pub overflow_add-self : goal.overflow_add-self
overflow_add-self c = let h = c.self.invariant.0 in omega (arith, h.within, h.row.same, h.long, h.few)

pub rise-requires-clause-long : goal.rise-requires-clause-long
rise-requires-clause-long c =
    let h = c.self.invariant.0 in
    omega (arith, ap length c.deref.ensures.value, c.swap.ensures.long, h.long)

pub rise-requires-clause-few : goal.rise-requires-clause-few
rise-requires-clause-few c = let h = c.self.invariant.0 in rw c.deref.ensures.value h.few

pub rise-requires-clause-within : goal.rise-requires-clause-within
rise-requires-clause-within c =
    let o = c.self.inside in
    let h = c.self.invariant.0 in
    let is : IsVariable o.activities.items c.args.v = rw (← c.self.view_is) at c.requires in
    let low : c.args.v - 1 < length o.row.places.items = omega (arith, h.long, is.0, is.1) in
    let a : c.index-place.result.now ≡ at o.row.places.items (c.args.v - 1) = get_or_read o.row.places.items (c.args.v - 1) c.index-place.result.now low c.index-place.ensures 0 in
    omega (arith, a, h.row.within (c.args.v - 1) low, c.if-place-self.false, c.swap.ensures.row.same, c.swap.ensures.long, h.row.same)

pub rise-requires-clause-up : goal.rise-requires-clause-up
rise-requires-clause-up c =
    let o = c.self.inside in
    let h = c.self.invariant.0 in
    rw c.deref.ensures.value (more o.index o.activities.items o.row.items.items c.swap.new.self.items.items o.count c.index-place.result.now h.order c.if-place-self.false c.swap.ensures.swapped)

pub invariant_of-self : goal.invariant_of-self
invariant_of-self c =
    let o = c.self.inside in
    let h = c.self.invariant.0 in
    let is : IsVariable o.activities.items c.args.v = rw (← c.self.view_is) at c.requires in
    let low : c.args.v - 1 < length o.row.places.items = omega (arith, h.long, is.0, is.1) in
    let a : c.index-place.result.now ≡ at o.row.places.items (c.args.v - 1) = get_or_read o.row.places.items (c.args.v - 1) c.index-place.result.now low c.index-place.ensures 0 in
    let second : o.count < length o.row.items.items = omega (arith, a, h.row.within (c.args.v - 1) low, c.if-place-self.false) in
    let places : length c.rise.new.row.places.items ≡ length o.row.places.items = c.rise.ensures.long ∙ c.swap.ensures.long in
    let items : length c.rise.new.row.items.items ≡ length o.row.items.items = omega (arith, places, c.rise.ensures.row.same, h.row.same) in (
      record {
        row = c.rise.ensures.row;
        long = omega (arith, h.long, places);
        few = h.few;
        within = omega (arith, items, second);
        order = rw c.deref.ensures.value at c.rise.ensures.heap;
      },
      (
        c.self.invariant.1.0,
        omega (arith, c.self.invariant.1.1, items, c.rise.ensures.items, c.swap.ensures.items),
        omega (arith, c.self.invariant.1.2, places, c.rise.ensures.places, c.swap.ensures.places),
      ),
    )

pub returns-clause-inside : goal.returns-clause-inside
returns-clause-inside c =
    let o = c.self.inside in
    let h = c.self.invariant.0 in
    let xs = o.row.items.items in
    let ps = o.row.places.items in
    let place = c.index-place.result.now in
    let is : IsVariable o.activities.items c.args.v = rw (← c.self.view_is) at c.requires in
    let low : c.args.v - 1 < length ps = omega (arith, h.long, is.0, is.1) in
    let a : place ≡ at ps (c.args.v - 1) = get_or_read ps (c.args.v - 1) place low c.index-place.ensures 0 in
    let second : o.count < length c.swap.new.self.items.items = omega (arith, a, h.row.within (c.args.v - 1) low, c.if-place-self.false, c.swap.ensures.row.same, c.swap.ensures.long, h.row.same) in
    let item : at xs place ≡ c.args.v - 1 = ap (at xs) a ∙ h.row.placed (c.args.v - 1) low in
    let same = c.swap.ensures.inside o.count (beside-outside place o.count o.count c.if-place-self.false (omega arith)) in
    rw (← c.self.view_is) (c.rise.ensures.inside ∙ inserted-more xs c.swap.new.self.items.items ps c.swap.new.self.places.items o.count place (c.args.v - 1) c.swap.ensures.row second c.swap.ensures.swapped item same)
