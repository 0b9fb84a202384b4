use Rattle.std.proofs.Common.{◌≡◌, ℕ, suc, ◌+◌, ◌-◌, ◌<◌, ◌∙◌, false, length, set, refl, ap, subst, arith}
use Rattle.std.proofs.lemmas.List.{get_or_read}
use Rattle.mal_heap.specs.Rows.{at, inside}
use Rattle.mal_heap.specs.Heaps.{IsHeap}
use Rattle.mal_heap.proofs.RowLemmas.{beside-inside}
use Rattle.mal_heap.proofs.HeapLemmas.{fewer}
use Rattle.mal_heap.proofs.HeapedLemmas.{first-is, none-is, taken-fewer}
use Rattle.mal_heap.proofs.heap.Heap.take_first.Goals as goal

pub returns-then-self-eq0-clause-first : goal.returns-then-self-eq0-clause-first
returns-then-self-eq0-clause-first c =
    let o = c.self.inside in
    rw (← c.self.view_is) (none-is o.index o.activities.items o.row.items.items o.row.places.items o.count c.self.invariant.0 (omega arith))

pub index-first-requires : goal.index-first-requires
index-first-requires c = let h = c.self.invariant.0 in omega (arith, h.within)

pub swap-requires-clause-row : goal.swap-requires-clause-row
swap-requires-clause-row c = let h = c.self.invariant.0 in h.row

pub swap-requires-clause-first : goal.swap-requires-clause-first
swap-requires-clause-first c = let h = c.self.invariant.0 in omega (arith, h.within)

pub swap-requires-clause-second : goal.swap-requires-clause-second
swap-requires-clause-second c = let h = c.self.invariant.0 in omega (arith, h.within)

pub sink-requires-clause-long : goal.sink-requires-clause-long
sink-requires-clause-long c =
    let h = c.self.invariant.0 in
    omega (arith, ap length c.deref.ensures.value, c.swap.ensures.long, h.long)

pub sink-requires-clause-few : goal.sink-requires-clause-few
sink-requires-clause-few c = let h = c.self.invariant.0 in rw c.deref.ensures.value h.few

pub sink-requires-clause-within : goal.sink-requires-clause-within
sink-requires-clause-within c =
    let h = c.self.invariant.0 in
    omega (arith, h.within, c.swap.ensures.row.same, c.swap.ensures.long, h.row.same)

pub sink-requires-clause-down : goal.sink-requires-clause-down
sink-requires-clause-down c =
    let o = c.self.inside in
    let h = c.self.invariant.0 in
    let e : o.count ≡ suc (o.count - 1) = omega arith in
    let heap = subst (λ (n : ℕ). IsHeap o.index o.activities.items o.row.items.items n) e h.order in
    rw c.deref.ensures.value (fewer o.index o.activities.items o.row.items.items c.swap.new.self.items.items (o.count - 1) heap c.swap.ensures.swapped)

pub overflow_add-result : goal.overflow_add-result
overflow_add-result c =
    let o = c.self.inside in
    let h = c.self.invariant.0 in
    let low : 0 < length o.row.items.items = omega (arith, h.within) in
    let a : c.index-first.result.now ≡ at o.row.items.items 0 = get_or_read o.row.items.items 0 c.index-first.result.now low c.index-first.ensures 0 in
    omega (arith, a, h.row.below 0 low, h.long, h.few)

pub invariant_of-self : goal.invariant_of-self
invariant_of-self c =
    let o = c.self.inside in
    let h = c.self.invariant.0 in
    let places : length c.sink.new.row.places.items ≡ length o.row.places.items = c.sink.ensures.long ∙ c.swap.ensures.long in
    let items : length c.sink.new.row.items.items ≡ length o.row.items.items = omega (arith, places, c.sink.ensures.row.same, h.row.same) in (
      record {
        row = c.sink.ensures.row;
        long = omega (arith, h.long, places);
        few = h.few;
        within = omega (arith, items, h.within);
        order = rw c.deref.ensures.value at c.sink.ensures.heap;
      },
      (
        c.self.invariant.1.0,
        omega (arith, c.self.invariant.1.1, items, c.sink.ensures.items, c.swap.ensures.items),
        omega (arith, c.self.invariant.1.2, places, c.sink.ensures.places, c.swap.ensures.places),
      ),
    )

pub returns-clause-first : goal.returns-clause-first
returns-clause-first c =
    let o = c.self.inside in
    let h = c.self.invariant.0 in
    let low : 0 < length o.row.items.items = omega (arith, h.within) in
    let a : c.index-first.result.now ≡ at o.row.items.items 0 = get_or_read o.row.items.items 0 c.index-first.result.now low c.index-first.ensures 0 in
    rw (← c.self.view_is, a) (first-is o.index o.activities.items o.row.items.items o.row.places.items o.count h (omega arith))

pub returns-clause-inside : goal.returns-clause-inside
returns-clause-inside c =
    let o = c.self.inside in
    let h = c.self.invariant.0 in
    let xs = o.row.items.items in
    let ps = o.row.places.items in
    let last = o.count - 1 in
    let low : 0 < length xs = omega (arith, h.within) in
    let a : c.index-first.result.now ≡ at xs 0 = get_or_read xs 0 c.index-first.result.now low c.index-first.ensures 0 in
    let e : o.count - 1 + 1 ≡ o.count = omega arith in
    let d : c.index-first.result.now + 1 - 1 ≡ at xs 0 = omega (arith, a) in
    let end : o.count - 1 < length c.swap.new.self.items.items = omega (arith, h.within, c.swap.ensures.row.same, c.swap.ensures.long, h.row.same) in
    let same = c.swap.ensures.inside (o.count - 1 + 1) (beside-inside 0 (o.count - 1) (o.count - 1 + 1) (omega arith) (omega arith)) in
    let taken = taken-fewer xs c.swap.new.self.items.items ps c.swap.new.self.places.items (o.count - 1) (at xs 0) c.swap.ensures.row end c.swap.ensures.swapped refl same in
    rw (← c.self.view_is, d) (c.sink.ensures.inside ∙ (taken ∙ ap (λ (n : ℕ). set (inside n ps) (at xs 0) false) e))
