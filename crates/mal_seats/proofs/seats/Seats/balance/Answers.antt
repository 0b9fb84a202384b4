use Rattle.std.proofs.Common.{◌≡◌, length, ap, ◌∙◌, arith}
use Rattle.spec_hall.specs.Seats.{balanced_by}
use Rattle.mal_seats.specs.Filled.{filled_in}
use Rattle.mal_seats.proofs.ChangedLemmas.{kept-balance, written-back}
use Rattle.mal_seats.proofs.NumberLemmas.{rise-balanced}
use Rattle.mal_seats.proofs.seats.Seats.balance.Goals as goal

pub invariant_of-self : goal.invariant_of-self
invariant_of-self c =
    let now = c.balance.ensures ∙ ap (balanced_by c.args.volumes.now) c.deref_mut.ensures.value in
    let len : c.self.inside.seats.len ≡ length c.self.inside.seats.items = omega arith in
    let filled : c.in-Ok.filled.items ≡ filled_in (balanced_by c.args.volumes.now c.self.inside.seats.items) = rw c.deref.ensures.value at c.in-Ok.ensures in
    rw (written-back c.self.inside.seats.items c.balance.new.seats c.self.inside.seats.len c.args.volumes.now len now) (record {
      counted = kept-balance c.self.inside.seats.items c.args.volumes.now _ _ _ c.self.invariant.counted filled;
      rising = rise-balanced c.args.volumes.now c.self.inside.seats.items c.self.invariant.rising;
    })

pub returns-clause-ok : goal.returns-clause-ok
returns-clause-ok c =
    let now = c.balance.ensures ∙ ap (balanced_by c.args.volumes.now) c.deref_mut.ensures.value in
    let len : c.self.inside.seats.len ≡ length c.self.inside.seats.items = omega arith in
    rw (← c.self.view_is) (written-back c.self.inside.seats.items c.balance.new.seats c.self.inside.seats.len c.args.volumes.now len now)
