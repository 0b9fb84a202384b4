use Rattle.std.proofs.Common.{◌≡◌, ◌+◌, ◌++◌, ◌∷◌, [], length, refl, ap, ◌∙◌, sym, ℕ, arith}
use Rattle.std.proofs.lemmas.List.{length-set, length-append}
use Rattle.mal_order.specs.Rings.{walk, Leads}
use Rattle.mal_order.proofs.RingLemmas.{ring-ended, walk-leads, length-walk}
use Rattle.mal_order.proofs.ring.Ring.push.Goals as goal
use Rattle.mal_order.proofs.ring.Ring.push.Goals.{After-self-1}

pub tie-requires-clause-here : goal.tie-requires-clause-here
tie-requires-clause-here c =
    let r = c.self.inside in
    let t = ring-ended r.after r.before c.args.number r.spare _ c.self.invariant c.requires.some (rw (← c.self.view_is) at c.requires.place) (rw (← c.self.view_is) at c.requires.new) in
    rw c.get-last.ensures t.last

pub overflow_add-self : goal.overflow_add-self
overflow_add-self c =
    let bound = rw (← c.self.view_is, length-walk) at c.requires.bound in
    omega (arith, bound)

-- the links lead over the longer list in the end
leads : (c : After-self-1) → Leads c.tie-2.new.after.numbers c.tie-2.new.before.numbers 0 (walk c.self.inside.after.numbers 0 c.self.inside.count ++ c.args.number ∷ []) 0
leads c =
    let r = c.self.inside in
    let t = ring-ended r.after r.before c.args.number r.spare _ c.self.invariant c.requires.some (rw (← c.self.view_is) at c.requires.place) (rw (← c.self.view_is) at c.requires.new) in
    rw (c.tie-2.ensures.after, c.tie-2.ensures.before, c.tie.ensures.after, c.tie.ensures.before, c.get-last.ensures) t.leads

-- so the walk along them is the longer list
walks : (c : After-self-1) → walk c.tie-2.new.after.numbers 0 (c.self.inside.count + 1) ≡ walk c.self.inside.after.numbers 0 c.self.inside.count ++ c.args.number ∷ []
walks c =
    let r = c.self.inside in
    let list = walk r.after.numbers 0 r.count in
    let long : length (list ++ c.args.number ∷ []) ≡ r.count + 1 = length-append list (c.args.number ∷ []) ∙ ap (λ (k : ℕ). k + 1) (length-walk r.after.numbers 0 r.count) in
    ap (λ (n : ℕ). walk c.tie-2.new.after.numbers 0 n) (sym long) ∙ walk-leads c.tie-2.new.after.numbers c.tie-2.new.before.numbers 0 0 (list ++ c.args.number ∷ []) (leads c)

pub invariant_of-self : goal.invariant_of-self
invariant_of-self c =
    let r = c.self.inside in
    let t = ring-ended r.after r.before c.args.number r.spare _ c.self.invariant c.requires.some (rw (← c.self.view_is) at c.requires.place) (rw (← c.self.view_is) at c.requires.new) in
    let after : length c.tie-2.new.after.numbers ≡ length r.after.numbers = rw (c.tie-2.ensures.after, c.tie.ensures.after, length-set, length-set) refl in
    let before : length c.tie-2.new.before.numbers ≡ length r.before.numbers = rw (c.tie-2.ensures.before, c.tie.ensures.before, length-set, length-set) refl in
    rw (walks c) (record {
      leads = leads c;
      once = t.once;
      placed = rw after t.placed;
      others = λ k n a. rw (c.tie-2.ensures.after, c.tie.ensures.after, c.get-last.ensures) (t.others k n a);
      same = before ∙ (c.self.invariant.same ∙ sym after);
      some = rw after c.self.invariant.some;
      room_after = omega (arith, c.tie-2.ensures.room_after, c.tie.ensures.room_after, c.self.invariant.room_after);
      room_before = omega (arith, c.tie-2.ensures.room_before, c.tie.ensures.room_before, c.self.invariant.room_before);
    })

pub returns-clause-list : goal.returns-clause-list
returns-clause-list c = rw (← c.self.view_is) (walks c)
