use Rattle.std.proofs.Common.{◌∙◌}
use Rattle.mal_seats.proofs.FilledLemmas.{pick-filled}
use Rattle.mal_seats.proofs.seats.Seats.pick.Goals as goal

pub returns : goal.returns
returns c =
    let scan = rw (c.deref.ensures.value, c.deref-2.ensures.value, c.self.invariant.counted.filled_is) at c.pick_among.ensures in
    rw (← c.self.view_is) (scan ∙ pick-filled c.self.inside.seats.items)
