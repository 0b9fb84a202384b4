use Rattle.std.proofs.Common.{◌≡◌, ◌≤◌, ◌+◌, ℕ, length, refl, ap, ◌∙◌, sym, arith}
use Rattle.std.proofs.lemmas.List.{length-append, length-replicate}
use Rattle.mal_order.specs.Rings.{walk, Leads}
use Rattle.mal_order.proofs.RingLemmas.{leads-more, link-more, walk-leads, length-walk, placed-more, placed-apart}
use Rattle.mal_order.proofs.ring.Ring.grow_reserved.Goals as goal

pub invariant_of-self : goal.invariant_of-self
invariant_of-self c =
    let r = c.self.inside in
    let list = walk r.after.numbers 0 r.count in
    let leads : Leads c.grow_reserved.new.self.numbers c.grow_reserved-2.new.self.numbers 0 list 0 = rw (c.grow_reserved.ensures.numbers, c.grow_reserved-2.ensures.numbers) (leads-more r.after.numbers r.before.numbers 0 0 c.args.n list c.self.invariant.leads) in
    let same = ap (λ (n : ℕ). walk c.grow_reserved.new.self.numbers 0 n) (sym (length-walk r.after.numbers 0 r.count)) ∙ walk-leads c.grow_reserved.new.self.numbers c.grow_reserved-2.new.self.numbers 0 0 list leads in
    let after : length c.grow_reserved.new.self.numbers ≡ length r.after.numbers + c.args.n = rw (c.grow_reserved.ensures.numbers, length-append, length-replicate) refl in
    let before : length c.grow_reserved-2.new.self.numbers ≡ length r.before.numbers + c.args.n = rw (c.grow_reserved-2.ensures.numbers, length-append, length-replicate) refl in
    let inv = c.self.invariant in
    rw same (record {
      leads = leads;
      once = inv.once;
      placed = placed-more (length r.after.numbers) (length c.grow_reserved.new.self.numbers) list (omega (arith, after)) inv.placed;
      others = λ k n a. rw c.grow_reserved.ensures.numbers (link-more r.after.numbers c.args.n k ∙ inv.others k n a);
      same = omega (arith, before, after, inv.same);
      some = omega (arith, after, inv.some);
      room_after = omega (arith, c.grow_reserved.ensures.room, inv.room_after);
      room_before = omega (arith, c.grow_reserved-2.ensures.room, inv.room_before);
    })

pub returns-clause-new : goal.returns-clause-new
returns-clause-new c v l =
    let r = c.self.inside in
    let list = walk r.after.numbers 0 r.count in
    let leads : Leads c.grow_reserved.new.self.numbers c.grow_reserved-2.new.self.numbers 0 list 0 = rw (c.grow_reserved.ensures.numbers, c.grow_reserved-2.ensures.numbers) (leads-more r.after.numbers r.before.numbers 0 0 c.args.n list c.self.invariant.leads) in
    let same = ap (λ (n : ℕ). walk c.grow_reserved.new.self.numbers 0 n) (sym (length-walk r.after.numbers 0 r.count)) ∙ walk-leads c.grow_reserved.new.self.numbers c.grow_reserved-2.new.self.numbers 0 0 list leads in
    let high : length r.after.numbers ≤ v = rw (← c.self.view_is) at l in
    rw same (placed-apart (length r.after.numbers) v list high c.self.invariant.placed)
