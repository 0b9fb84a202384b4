use Rattle.std.proofs.Common.{ap, sym, ◌∙◌}
use Rattle.std.specs.Prelude.{nat_lt}
use Rattle.spec_hall.specs.Seats.{has_changed}
use Rattle.mal_seats.proofs.CountLemmas.{any-counted}
use Rattle.mal_seats.proofs.seats.Seats.is_due.Goals as goal

pub returns : goal.returns
returns c = rw (← c.self.view_is) (ap (nat_lt 0) c.self.invariant.counted.changed_is ∙ sym (any-counted has_changed c.self.inside.seats.items))
