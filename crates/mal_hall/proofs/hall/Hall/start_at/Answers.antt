use Rattle.std.proofs.Common.{◌+◌, ◌-◌, slice_set, Some, ap, refl, arith}
use Rattle.spec_hall.specs.Seats.{Seat}
use Rattle.spec_hall.specs.Spots.{Spot}
use Rattle.mal_hall.proofs.HallLemmas.{hall-waited}
use Rattle.mal_hall.proofs.Parts.{parts}
use Rattle.mal_hall.proofs.PhaseLemmas.{HasBegun, can-start, phase-start, read-seat, within-key}
use Rattle.mal_hall.proofs.RoomLemmas.{room-kept}
use Rattle.mal_hall.proofs.hall.Hall.start_at.Goals as goal
use Rattle.mal_hall.proofs.hall.Hall.start_at.Goals.{After-self-2-1}

pub owed-owed-requires : goal.owed-owed-requires
owed-owed-requires c = room-kept (parts c.self.inside) _ c.self.invariant c.deref.ensures.value

pub at-requires : goal.at-requires
at-requires c =
    let may = rw (← c.self.view_is) at c.requires in
    omega (arith, within-key _ c.args.at may.key c.self.invariant may.place)

pub enter_start-requires-clause-place : goal.enter_start-requires-clause-place
enter_start-requires-clause-place c =
    let may = rw (← c.self.view_is) at c.requires in
    omega (arith, within-key _ c.args.at may.key c.self.invariant may.place)

pub enter_start-requires-clause-startable : goal.enter_start-requires-clause-startable
enter_start-requires-clause-startable c =
    let may = rw (← c.self.view_is) at c.requires in
    rw c.new-spot.ensures (λ (s : Seat) there. (can-start (parts c.self.inside) c.args.at c.args.index c.args.worker s c.self.invariant may there).startable)

pub returns-in-Err-clause-err : goal.returns-in-Err-clause-err
returns-in-Err-clause-err c = rw (← c.self.view_is, c.in-Err.ensures.err.events) refl

pub invariant_of-self : goal.invariant_of-self
invariant_of-self c = hall-waited (parts c.self.inside) c.enter_start.new.entries c.enter_start.new.seats c.self.invariant c.in-Err.ensures.err

-- the start was entered
begun : (c : After-self-2-1) → HasBegun (parts c.self.inside) (record { entries = c.enter_start.new.entries; seats = c.enter_start.new.seats; spots = slice_set c.self.inside.spots.items (c.args.worker - 1) (Some c.new-spot.result); names = c.self.inside.names; starts = c.self.inside.starts + 1; unclosed = c.self.inside.unclosed; tenants = c.self.inside.tenants; comings = c.self.inside.comings; moved = c.self.inside.moved }) c.args.index c.args.worker c.in-Ok.lease
begun c =
    let may = rw (← c.self.view_is) at c.requires in
    let s : Seat = c.at.result.now in
    let there = read-seat (parts c.self.inside) c.args.at s (within-key (parts c.self.inside) c.args.at may.key c.self.invariant may.place) c.at.ensures in
    let can = can-start (parts c.self.inside) c.args.at c.args.index c.args.worker s c.self.invariant may there in
    let owing = rw c.deref.ensures.value at c.owed-owed.ensures.value in
    let e = rw c.new-spot.ensures at c.in-Ok.ensures in
    let spots = rw (c.number.ensures, c.job.ensures) at (ap (λ (sp : Spot). slice_set c.self.inside.spots.items (c.args.worker - 1) (Some sp)) c.new-spot.ensures) in
    phase-start (parts c.self.inside) _ c.args.at c.args.index c.args.worker (c.self.inside.starts + 1) s c.in-Ok.lease c.self.invariant can (e.lease s there) refl e.workers (e.events s there) (e.seats s there) spots refl refl (record { names = refl; tenants = refl; comings = refl; moved = refl }) (omega (arith, owing, e.room))

pub invariant_of-self-2 : goal.invariant_of-self-2
invariant_of-self-2 c = (begun c).hall

pub returns-clause-ok : goal.returns-clause-ok
returns-clause-ok c = rw (← c.self.view_is) (begun c).has
