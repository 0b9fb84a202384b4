use Rattle.mal_base.specs.Limits.{greatest_variable}
use Rattle.std.proofs.Common.{◌≡◌, ◌+◌, ◌≤◌, length, refl, arith}
use Rattle.mal_heap.proofs.RowLemmas.{inside-push}
use Rattle.mal_heap.proofs.HeapedLemmas.{pushed}
use Rattle.mal_heap.proofs.heap.Heap.push_reserved.Goals as goal

pub overflow_cast-number : goal.overflow_cast-number
overflow_cast-number c = let h = c.self.invariant.0 in omega (arith, h.few, c.len-number.ensures)

pub push_reserved-requires : goal.push_reserved-requires
push_reserved-requires c =
    let room : 1 ≤ c.self.inside.spare = rw (← c.self.view_is) at c.requires.room in
    omega (arith, room, c.self.invariant.1.0)

pub push_reserved-requires-2 : goal.push_reserved-requires-2
push_reserved-requires-2 c =
    let room : 1 ≤ c.self.inside.spare = rw (← c.self.view_is) at c.requires.room in
    omega (arith, room, c.self.invariant.1.1)

pub push_reserved-requires-3 : goal.push_reserved-requires-3
push_reserved-requires-3 c =
    let room : 1 ≤ c.self.inside.spare = rw (← c.self.view_is) at c.requires.room in
    omega (arith, room, c.self.invariant.1.2)

pub overflow_sub-self : goal.overflow_sub-self
overflow_sub-self c = rw (← c.self.view_is) at c.requires.room

pub invariant_of-self : goal.invariant_of-self
invariant_of-self c =
    let o = c.self.inside in
    let h = c.self.invariant.0 in
    let few : length o.activities.items + 1 ≤ greatest_variable = rw (← c.self.view_is) at c.requires.few in
    let n : c.len-number.result ≡ length o.row.items.items = omega (arith, c.len-number.ensures, h.long, h.row.same) in (
      rw (c.push_reserved.ensures.items, c.none.ensures, c.push_reserved-2.ensures.items, c.push_reserved-3.ensures.items) (pushed o.index o.activities.items o.row.items.items o.row.places.items o.count c.len-number.result h n few),
      (
        omega (arith, c.self.invariant.1.0, c.push_reserved.ensures.len, c.push_reserved.ensures.capacity),
        omega (arith, c.self.invariant.1.1, c.push_reserved-2.ensures.len, c.push_reserved-2.ensures.capacity),
        omega (arith, c.self.invariant.1.2, c.push_reserved-3.ensures.len, c.push_reserved-3.ensures.capacity),
      ),
    )

pub returns-clause-activities : goal.returns-clause-activities
returns-clause-activities c = rw (← c.self.view_is, c.push_reserved.ensures.items, c.none.ensures) refl

pub returns-clause-inside : goal.returns-clause-inside
returns-clause-inside c =
    let o = c.self.inside in
    let h = c.self.invariant.0 in
    let n : c.len-number.result ≡ length o.row.items.items = omega (arith, c.len-number.ensures, h.long, h.row.same) in
    rw (← c.self.view_is, c.push_reserved-3.ensures.items) (inside-push o.count o.row.places.items c.len-number.result (omega (arith, n, h.within)))

pub returns-clause-room : goal.returns-clause-room
returns-clause-room c =
    let room : 1 ≤ c.self.inside.spare = rw (← c.self.view_is) at c.requires.room in
    rw (← c.self.view_is) (omega (arith, room))
