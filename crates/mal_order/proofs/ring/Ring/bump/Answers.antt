use Rattle.std.proofs.Common.{◌≡◌, ℕ, length, set, refl, ap, ◌∙◌, sym, subst, arith}
use Rattle.std.proofs.lemmas.List.{length-set, get_or-set_other}
use Rattle.spec_learn.specs.Order.{moved}
use Rattle.mal_order.specs.Rings.{link, walk, Leads, ArePlaced}
use Rattle.mal_order.proofs.RingLemmas.{ring-taken, ring-bumped, leads-same, walk-leads, length-walk}
use Rattle.mal_order.proofs.ring.Ring.bump.Goals as goal
use Rattle.mal_order.proofs.ring.Ring.bump.Goals.{After-tie-3}

pub tie-requires-clause-here : goal.tie-requires-clause-here
tie-requires-clause-here c =
    let r = c.self.inside in
    let t = ring-taken r.after r.before c.args.number r.spare _ c.self.invariant (rw (← c.self.view_is) at c.requires) in
    rw c.get-left.ensures t.left

pub tie-requires-clause-there : goal.tie-requires-clause-there
tie-requires-clause-there c =
    let r = c.self.inside in
    let t = ring-taken r.after r.before c.args.number r.spare _ c.self.invariant (rw (← c.self.view_is) at c.requires) in
    rw c.get-right.ensures t.right

pub tie-requires-2-clause-here : goal.tie-requires-2-clause-here
tie-requires-2-clause-here c =
    let r = c.self.inside in
    let t = ring-taken r.after r.before c.args.number r.spare _ c.self.invariant (rw (← c.self.view_is) at c.requires) in
    rw (c.tie.ensures.after, length-set) t.here

pub tie-requires-2-clause-there : goal.tie-requires-2-clause-there
tie-requires-2-clause-there c =
    let r = c.self.inside in
    let has = rw (← c.self.view_is) at c.requires in
    let t = ring-taken r.after r.before c.args.number r.spare _ c.self.invariant has in
    let a = rw (c.get-left.ensures, c.get-right.ensures) at c.tie.ensures.after in
    let b = rw (c.get-left.ensures, c.get-right.ensures) at c.tie.ensures.before in
    let f = ring-bumped r.after r.before c.args.number r.spare _ c.tie.new.after.numbers c.tie.new.before.numbers c.self.invariant has a b in
    rw (c.tie.ensures.before, length-set, c.get-first.ensures) f.0

pub tie-requires-3-clause-there : goal.tie-requires-3-clause-there
tie-requires-3-clause-there c =
    let r = c.self.inside in
    let t = ring-taken r.after r.before c.args.number r.spare _ c.self.invariant (rw (← c.self.view_is) at c.requires) in
    rw (c.tie-2.ensures.before, length-set, c.tie.ensures.before, length-set, c.self.invariant.same) t.here

-- the links lead over the moved list in the end
leads : (c : After-tie-3) → Leads c.tie-3.new.after.numbers c.tie-3.new.before.numbers 0 (moved c.args.number (walk c.self.inside.after.numbers 0 c.self.inside.count)) 0
leads c =
    let r = c.self.inside in
    let a = rw (c.get-left.ensures, c.get-right.ensures) at c.tie.ensures.after in
    let b = rw (c.get-left.ensures, c.get-right.ensures) at c.tie.ensures.before in
    let f = ring-bumped r.after r.before c.args.number r.spare _ c.tie.new.after.numbers c.tie.new.before.numbers c.self.invariant (rw (← c.self.view_is) at c.requires) a b in
    let first = link c.tie.new.after.numbers 0 in
    let after_is : c.tie-3.new.after.numbers ≡ set (set c.tie.new.after.numbers c.args.number first) 0 c.args.number = rw (c.tie-3.ensures.after, c.tie-2.ensures.after, c.get-first.ensures) refl in
    let before_is : c.tie-3.new.before.numbers ≡ set (set c.tie.new.before.numbers first c.args.number) c.args.number 0 = rw (c.tie-3.ensures.before, c.tie-2.ensures.before, c.get-first.ensures) refl in
    leads-same c.tie-3.new.after.numbers _ c.tie-3.new.before.numbers _ 0 0 (moved c.args.number (walk r.after.numbers 0 r.count)) after_is before_is f.1

-- so the walk along them is the moved list
walks : (c : After-tie-3) → walk c.tie-3.new.after.numbers 0 c.self.inside.count ≡ moved c.args.number (walk c.self.inside.after.numbers 0 c.self.inside.count)
walks c =
    let r = c.self.inside in
    let list = walk r.after.numbers 0 r.count in
    let t = ring-taken r.after r.before c.args.number r.spare list c.self.invariant (rw (← c.self.view_is) at c.requires) in
    let long : length (moved c.args.number list) ≡ r.count = t.long ∙ length-walk r.after.numbers 0 r.count in
    ap (λ (n : ℕ). walk c.tie-3.new.after.numbers 0 n) (sym long) ∙ walk-leads c.tie-3.new.after.numbers c.tie-3.new.before.numbers 0 0 (moved c.args.number list) (leads c)

pub invariant_of-self : goal.invariant_of-self
invariant_of-self c =
    let r = c.self.inside in
    let t = ring-taken r.after r.before c.args.number r.spare _ c.self.invariant (rw (← c.self.view_is) at c.requires) in
    let after : length c.tie-3.new.after.numbers ≡ length r.after.numbers = rw (c.tie-3.ensures.after, c.tie-2.ensures.after, c.tie.ensures.after, length-set, length-set, length-set) refl in
    let before : length c.tie-3.new.before.numbers ≡ length r.before.numbers = rw (c.tie-3.ensures.before, c.tie-2.ensures.before, c.tie.ensures.before, length-set, length-set, length-set) refl in
    rw (walks c) (record {
      leads = leads c;
      once = t.once;
      placed = subst (λ (n : ℕ). ArePlaced n (moved c.args.number (walk r.after.numbers 0 r.count))) (sym after) t.placed;
      others = λ k n a.
          let one : link c.tie.new.after.numbers k ≡ 0 = rw (c.tie.ensures.after, c.get-left.ensures, c.get-right.ensures) (t.others k n a) in
          rw (c.tie-3.ensures.after, c.tie-2.ensures.after) (get_or-set_other _ 0 k c.args.number 0 n ∙ (get_or-set_other c.tie.new.after.numbers c.args.number k c.get-first.result 0 (λ q. a.0 (sym q)) ∙ one));
      same = before ∙ (c.self.invariant.same ∙ sym after);
      some = rw after c.self.invariant.some;
      room_after = omega (arith, c.tie-3.ensures.room_after, c.tie-2.ensures.room_after, c.tie.ensures.room_after, c.self.invariant.room_after);
      room_before = omega (arith, c.tie-3.ensures.room_before, c.tie-2.ensures.room_before, c.tie.ensures.room_before, c.self.invariant.room_before);
    })

pub returns-clause-list : goal.returns-clause-list
returns-clause-list c = rw (← c.self.view_is) (walks c)

pub returns-clause-len : goal.returns-clause-len
returns-clause-len c = rw (← c.self.view_is) (length-walk _ _ _ ∙ sym (length-walk c.self.inside.after.numbers 0 c.self.inside.count))
