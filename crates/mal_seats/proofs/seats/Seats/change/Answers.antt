use Rattle.std.proofs.Common.{◌<◌, length, refl, arith}
use Rattle.std.specs.Fn.{FnOnceReturnsAtMut}
use Rattle.mal_seats.proofs.ChangedLemmas.{is-among, kept-change, seat-at}
use Rattle.mal_seats.proofs.seats.Seats.change.Goals as goal

pub index_mut-seat-requires : goal.index_mut-seat-requires
index_mut-seat-requires g c =
    let low : c.args.at < length c.self.inside.seats.items = rw (← c.self.view_is) at c.requires.place in
    omega arith

pub change-requires : goal.change-requires
change-requires g c =
    let low : c.args.at < length c.self.inside.seats.items = rw (← c.self.view_is) at c.requires.place in
    let there = seat-at c.self.inside.seats.items c.args.at c.index_mut-seat.result.now low c.index_mut-seat.ensures.value in
    rw c.marks-before.ensures (is-among c.self.inside.seats.items _ _ c.args.at c.index_mut-seat.result.now c.self.invariant.counted there (omega arith))

pub invariant_of-self : goal.invariant_of-self
invariant_of-self g c =
    let low : c.args.at < length c.self.inside.seats.items = rw (← c.self.view_is) at c.requires.place in
    let there = seat-at c.self.inside.seats.items c.args.at c.index_mut-seat.result.now low c.index_mut-seat.ensures.value in
    let gave : FnOnceReturnsAtMut g.F.FnOnce c.args.step c.index_mut-seat.result.now c.step-result.result c.step-result.new.arg2 = record { shown = _; shows = refl; left = _; met = c.step-result.ensures; leaves = refl } in
    let steady = rw (← c.self.view_is) at c.requires.steady in
    let are = rw (c.marks-before.ensures, c.marks-after.ensures) at c.change.ensures in
    kept-change c.self.inside.seats.items _ _ c.args.at c.index_mut-seat.result.now c.step-result.new.arg2 _ c.self.invariant there (steady c.index_mut-seat.result.now there c.step-result.result c.step-result.new.arg2 gave) are
