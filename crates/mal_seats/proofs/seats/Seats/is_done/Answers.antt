use Rattle.std.proofs.Common.{ℕ, ◌==◌, ap, sym, ◌∙◌}
use Rattle.mal_seats.proofs.CountLemmas.{done-counted}
use Rattle.mal_seats.proofs.seats.Seats.is_done.Goals as goal

pub returns : goal.returns
returns c = rw (← c.self.view_is) (ap (λ (n : ℕ). n == 0) c.self.invariant.counted.unfinished_is ∙ sym (done-counted c.self.inside.seats.items))
