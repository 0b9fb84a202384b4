use Rattle.std.proofs.Common.{◌-◌, None, slice_set, refl}
use Rattle.mal_job.specs.Finishing.{outcome_of}
use Rattle.mal_hall.proofs.Parts.{parts}
use Rattle.mal_hall.proofs.PhaseLemmas.{Ended, end-spot, ends-at, phase-end, spot-is, spot-there}
use Rattle.mal_hall.proofs.hall.Hall.end.Goals as goal

pub unreachable-requires : goal.unreachable-requires
unreachable-requires c = end-spot _ _ _ _ _ c.self.invariant c.deref.ensures.value c.requires.some c.spot_of.ensures c.in_default.is (rw (← c.self.view_is) at c.requires.may)

pub unreachable-requires-in_default-place_of_number : goal.unreachable-requires-in_default-place_of_number
unreachable-requires-in_default-place_of_number c = spot-there (parts c.self.inside) _ c.in-Some.spot _ (spot-is (parts c.self.inside) _ c.args.worker _ c.in-Some.spot c.self.invariant c.deref.ensures.value c.requires.some c.spot_of.ensures c.in-Some.is) (rw c.job.ensures at c.place_of_number.ensures) c.in_default-place_of_number.is

pub enter_finish-requires-clause-place : goal.enter_finish-requires-clause-place
enter_finish-requires-clause-place c = (ends-at (parts c.self.inside) _ c.args.worker _ c.in-Some.spot _ c.in-Some-place_of_number.at c.args.back c.self.invariant c.deref.ensures.value c.requires.some c.spot_of.ensures c.in-Some.is (rw c.job.ensures at c.place_of_number.ensures) c.in-Some-place_of_number.is (rw (← c.self.view_is) at c.requires.may)).place

pub enter_finish-requires-clause-index : goal.enter_finish-requires-clause-index
enter_finish-requires-clause-index c = rw c.index.ensures (ends-at (parts c.self.inside) _ c.args.worker _ c.in-Some.spot _ c.in-Some-place_of_number.at c.args.back c.self.invariant c.deref.ensures.value c.requires.some c.spot_of.ensures c.in-Some.is (rw c.job.ensures at c.place_of_number.ensures) c.in-Some-place_of_number.is (rw (← c.self.view_is) at c.requires.may)).sits.is.low

pub enter_finish-requires-clause-back : goal.enter_finish-requires-clause-back
enter_finish-requires-clause-back c = rw c.index.ensures (ends-at (parts c.self.inside) _ c.args.worker _ c.in-Some.spot _ c.in-Some-place_of_number.at c.args.back c.self.invariant c.deref.ensures.value c.requires.some c.spot_of.ensures c.in-Some.is (rw c.job.ensures at c.place_of_number.ensures) c.in-Some-place_of_number.is (rw (← c.self.view_is) at c.requires.may)).may

pub enter_finish-requires-clause-room : goal.enter_finish-requires-clause-room
enter_finish-requires-clause-room c = (ends-at (parts c.self.inside) _ c.args.worker _ c.in-Some.spot _ c.in-Some-place_of_number.at c.args.back c.self.invariant c.deref.ensures.value c.requires.some c.spot_of.ensures c.in-Some.is (rw c.job.ensures at c.place_of_number.ensures) c.in-Some-place_of_number.is (rw (← c.self.view_is) at c.requires.may)).room

pub invariant_of-self : goal.invariant_of-self
invariant_of-self c =
    let at = ends-at (parts c.self.inside) _ c.args.worker _ c.in-Some.spot _ c.in-Some-place_of_number.at c.args.back c.self.invariant c.deref.ensures.value c.requires.some c.spot_of.ensures c.in-Some.is (rw c.job.ensures at c.place_of_number.ensures) c.in-Some-place_of_number.is (rw (← c.self.view_is) at c.requires.may) in
    let e = rw c.index.ensures at c.enter_finish.ensures in
    let now : Ended (parts c.self.inside) (record { entries = c.enter_finish.new.entries; seats = c.enter_finish.new.seats; spots = slice_set c.self.inside.spots.items (c.args.worker - 1) None; names = c.self.inside.names; starts = c.self.inside.starts; unclosed = c.self.inside.unclosed; tenants = c.self.inside.tenants; comings = c.self.inside.comings; moved = c.self.inside.moved }) c.args.worker (outcome_of c.args.back) = phase-end (parts c.self.inside) _ c.args.worker c.in-Some.spot c.in-Some-place_of_number.at at.seat (outcome_of c.args.back) c.self.invariant at.sits e.workers (e.events at.seat at.sits.seat.is) (e.seats at.seat at.sits.seat.is) refl refl refl (record { names = refl; tenants = refl; comings = refl; moved = refl }) e.room in
    now.hall

pub returns-clause-ended : goal.returns-clause-ended
returns-clause-ended c =
    let at = ends-at (parts c.self.inside) _ c.args.worker _ c.in-Some.spot _ c.in-Some-place_of_number.at c.args.back c.self.invariant c.deref.ensures.value c.requires.some c.spot_of.ensures c.in-Some.is (rw c.job.ensures at c.place_of_number.ensures) c.in-Some-place_of_number.is (rw (← c.self.view_is) at c.requires.may) in
    let e = rw c.index.ensures at c.enter_finish.ensures in
    let now : Ended (parts c.self.inside) (record { entries = c.enter_finish.new.entries; seats = c.enter_finish.new.seats; spots = slice_set c.self.inside.spots.items (c.args.worker - 1) None; names = c.self.inside.names; starts = c.self.inside.starts; unclosed = c.self.inside.unclosed; tenants = c.self.inside.tenants; comings = c.self.inside.comings; moved = c.self.inside.moved }) c.args.worker (outcome_of c.args.back) = phase-end (parts c.self.inside) _ c.args.worker c.in-Some.spot c.in-Some-place_of_number.at at.seat (outcome_of c.args.back) c.self.invariant at.sits e.workers (e.events at.seat at.sits.seat.is) (e.seats at.seat at.sits.seat.is) refl refl refl (record { names = refl; tenants = refl; comings = refl; moved = refl }) e.room in
    rw (← c.self.view_is) now.has
