use Rattle.mal_base.specs.Limits.{greatest_variable}
use Rattle.std.proofs.Common.{◌≡◌, ◌≤◌, ◌+◌, ◌-◌, ◌*◌, ◌/◌, ◌∷◌, ◌++◌, length, refl, sym, ◌∙◌, append_assoc, arith}
use Rattle.std.proofs.lemmas.List.{length-append, get_or_append_left}
use Rattle.spec_node.specs.Load.{counted}
use Rattle.mal_order.proofs.CountedLemmas.{new_order-runs, length-counted, apart-counted, turn-le}
use Rattle.mal_order.proofs.RingLemmas.{apart-append}
use Rattle.mal_order.proofs.order.Order.append_reserved.Goals as goal

pub push_counted-requires-2-clause-few : goal.push_counted-requires-2-clause-few
push_counted-requires-2-clause-few c =
    let bound = rw (← c.self.view_is) at c.requires.bound in
    let t = turn-le c.self.inside.index c.args.n c.self.invariant.small in
    rw (c.share-turn.ensures, c.push_counted.ensures.list, c.grow_reserved.ensures.list, length-append, length-counted) (omega (arith, bound, t))

pub push_counted-requires-2-clause-new : goal.push_counted-requires-2-clause-new
push_counted-requires-2-clause-new c v l h =
    let turn = c.self.inside.index * c.args.n / 64 in
    let high = c.self.invariant.places in
    let old = c.grow_reserved.ensures.new v (omega (arith, l, high, c.len-variables.ensures)) in
    rw (c.push_counted.ensures.list, c.share-turn.ensures) (apart-append v c.grow_reserved.new.self.list (counted (c.len-variables.result + 1 + turn) (c.args.n - turn)) old (apart-counted v (c.args.n - turn) (c.len-variables.result + 1 + turn) (rw c.share-turn.ensures at h)))

pub invariant_of-self : goal.invariant_of-self
invariant_of-self c =
    let o = c.self.inside in
    let inv = c.self.invariant in
    let turn = o.index * c.args.n / 64 in
    let t : turn ≤ c.args.n = turn-le o.index c.args.n inv.small in
    let bound : length o.ring.list + c.args.n ≤ greatest_variable = rw (← c.self.view_is) at c.requires.bound in
    let first = counted (c.len-variables.result + 1 + turn) (c.args.n - turn) in
    let second = counted (c.len-variables.result + 1) turn in
    let list : c.push_counted-2.new.ring.list ≡ o.ring.list ++ (first ++ second) = rw (c.push_counted-2.ensures.list, c.push_counted.ensures.list, c.share-turn.ensures, c.grow_reserved.ensures.list, append_assoc) refl in
    let long : length (o.ring.list ++ (first ++ second)) ≡ length o.ring.list + c.args.n = rw (length-append, length-append, length-counted, length-counted) (omega (arith, t)) in
    let places : c.push_counted-2.new.ring.places ≡ o.ring.places + c.args.n = c.push_counted-2.ensures.places ∙ (c.push_counted.ensures.places ∙ c.grow_reserved.ensures.places) in
    record {
      small = inv.small;
      bound = rw list (omega (arith, long, bound));
      places = rw list (omega (arith, long, places, inv.places));
      within = rw list (omega (arith, long, inv.within));
      marked = rw list (inv.marked ∙ sym (get_or_append_left (0 ∷ o.ring.list) (first ++ second) 0 o.passed (omega (arith, inv.within))));
    }

pub returns-clause-list : goal.returns-clause-list
returns-clause-list c =
    let o = c.self.inside in
    rw (c.push_counted-2.ensures.list, c.push_counted.ensures.list, c.share-turn.ensures, c.grow_reserved.ensures.list, c.len-variables.ensures, ← c.self.view_is, new_order-runs o.index (length o.ring.list) c.args.n c.self.invariant.small, append_assoc) refl
