use Rattle.std.proofs.Common.{◌<◌, length}
use Rattle.mal_seats.proofs.ChangedLemmas.{kept-leave, seat-at}
use Rattle.mal_seats.proofs.seats.Seats.leave.Goals as goal

pub invariant_of-self : goal.invariant_of-self
invariant_of-self c =
    let low : c.args.at < length c.self.inside.seats.items = rw (← c.self.view_is) at c.requires in
    let there = seat-at c.self.inside.seats.items c.args.at c.remove-seat.result low c.remove-seat.ensures.value in
    let are = rw c.marks-marks.ensures at c.take_away.ensures in
    rw c.remove-seat.ensures.items (kept-leave c.self.inside.seats.items _ _ _ c.args.at c.remove-seat.result _ c.self.invariant there are c.close_up.ensures)
