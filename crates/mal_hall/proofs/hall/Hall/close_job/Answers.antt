use Rattle.std.proofs.Common.{◌-◌, refl, sym, arith}
use Rattle.spec_hall.specs.Calls.{Closes}
use Rattle.spec_hall.specs.Dressed.{keyed}
use Rattle.spec_hall.specs.Legal.{MayClose}
use Rattle.mal_hall.proofs.HallLemmas.{placed, placed-below, sits, hall-absent, hall-place, hall-found, hall-some, hall-close, called-none, called-one}
use Rattle.mal_hall.proofs.hall.Hall.close_job.Goals as goal

pub returns-in_default-clause-call : goal.returns-in_default-clause-call
returns-in_default-clause-call c =
    rw (← c.self.view_is) (called-none _ _ (Closes (keyed c.args.tenant.now c.args.job.now)) _ (hall-absent _ _ c.self.invariant (placed c.self.inside.seats (keyed c.args.tenant.now c.args.job.now) _ _ (hall-place _ (keyed c.args.tenant.now c.args.job.now) _ c.self.invariant c.place_of.ensures) c.in_default.is), refl))

pub at-requires : goal.at-requires
at-requires c = omega (arith, placed-below c.self.inside.seats (keyed c.args.tenant.now c.args.job.now) _ _ (hall-place _ (keyed c.args.tenant.now c.args.job.now) _ c.self.invariant c.place_of.ensures) c.in-Some.is)

pub close-requires : goal.close-requires
close-requires c = omega (arith, placed-below c.self.inside.seats (keyed c.args.tenant.now c.args.job.now) _ _ (hall-place _ (keyed c.args.tenant.now c.args.job.now) _ c.self.invariant c.place_of.ensures) c.in-Some.is)

pub returns-then-is_closed-clause-call : goal.returns-then-is_closed-clause-call
returns-then-is_closed-clause-call c =
    let here = sits c.self.inside.seats (keyed c.args.tenant.now c.args.job.now) _ _ _ (hall-place _ (keyed c.args.tenant.now c.args.job.now) _ c.self.invariant c.place_of.ensures) c.in-Some.is c.at.ensures in
    let closed = rw (c.job.ensures, c.if-is_closed.true) at c.is_closed.ensures in
    rw (← c.self.view_is) (called-none _ _ (Closes (keyed c.args.tenant.now c.args.job.now)) _ (c.at.result.now.job.titled, (hall-found _ _ _ _ c.self.invariant here).job, sym closed, refl))

pub overflow_sub-self : goal.overflow_sub-self
overflow_sub-self c =
    let here = sits c.self.inside.seats (keyed c.args.tenant.now c.args.job.now) _ _ _ (hall-place _ (keyed c.args.tenant.now c.args.job.now) _ c.self.invariant c.place_of.ensures) c.in-Some.is c.at.ensures in
    let still = sym (rw (c.job.ensures, c.if-is_closed.false) at c.is_closed.ensures) in
    omega (arith, hall-some _ _ _ _ c.self.invariant here still)

pub push_reserved-requires : goal.push_reserved-requires
push_reserved-requires c =
    let here = sits c.self.inside.seats (keyed c.args.tenant.now c.args.job.now) _ _ _ (hall-place _ (keyed c.args.tenant.now c.args.job.now) _ c.self.invariant c.place_of.ensures) c.in-Some.is c.at.ensures in
    let still = sym (rw (c.job.ensures, c.if-is_closed.false) at c.is_closed.ensures) in
    omega (arith, hall-some _ _ _ _ c.self.invariant here still, c.self.invariant.room)

pub invariant_of-self : goal.invariant_of-self
invariant_of-self c =
    let here = sits c.self.inside.seats (keyed c.args.tenant.now c.args.job.now) _ _ _ (hall-place _ (keyed c.args.tenant.now c.args.job.now) _ c.self.invariant c.place_of.ensures) c.in-Some.is c.at.ensures in
    let still = sym (rw (c.job.ensures, c.if-is_closed.false) at c.is_closed.ensures) in
    let now = hall-close _ (record { entries = c.push_reserved.new.self; seats = c.close.new.self; spots = c.self.inside.spots.items; names = c.self.inside.names; starts = c.self.inside.starts; unclosed = c.self.inside.unclosed - 1; tenants = c.self.inside.tenants; comings = c.self.inside.comings; moved = c.self.inside.moved }) _ _ _ c.self.invariant here c.push_reserved.ensures.workers c.push_reserved.ensures.events (c.close.ensures _ here.seat) refl refl refl (record { names = refl; tenants = refl; comings = refl; moved = refl }) still c.push_reserved.ensures.room in
    now.hall

pub returns-clause-ok : goal.returns-clause-ok
returns-clause-ok c =
    let here = sits c.self.inside.seats (keyed c.args.tenant.now c.args.job.now) _ _ _ (hall-place _ (keyed c.args.tenant.now c.args.job.now) _ c.self.invariant c.place_of.ensures) c.in-Some.is c.at.ensures in
    let still = sym (rw (c.job.ensures, c.if-is_closed.false) at c.is_closed.ensures) in
    let now = hall-close _ (record { entries = c.push_reserved.new.self; seats = c.close.new.self; spots = c.self.inside.spots.items; names = c.self.inside.names; starts = c.self.inside.starts; unclosed = c.self.inside.unclosed - 1; tenants = c.self.inside.tenants; comings = c.self.inside.comings; moved = c.self.inside.moved }) _ _ _ c.self.invariant here c.push_reserved.ensures.workers c.push_reserved.ensures.events (c.close.ensures _ here.seat) refl refl refl (record { names = refl; tenants = refl; comings = refl; moved = refl }) still c.push_reserved.ensures.room in
    rw (← c.self.view_is) now.events

pub returns-clause-call : goal.returns-clause-call
returns-clause-call c =
    let here = sits c.self.inside.seats (keyed c.args.tenant.now c.args.job.now) _ _ _ (hall-place _ (keyed c.args.tenant.now c.args.job.now) _ c.self.invariant c.place_of.ensures) c.in-Some.is c.at.ensures in
    let still = sym (rw (c.job.ensures, c.if-is_closed.false) at c.is_closed.ensures) in
    let now = hall-close _ (record { entries = c.push_reserved.new.self; seats = c.close.new.self; spots = c.self.inside.spots.items; names = c.self.inside.names; starts = c.self.inside.starts; unclosed = c.self.inside.unclosed - 1; tenants = c.self.inside.tenants; comings = c.self.inside.comings; moved = c.self.inside.moved }) _ _ _ c.self.invariant here c.push_reserved.ensures.workers c.push_reserved.ensures.events (c.close.ensures _ here.seat) refl refl refl (record { names = refl; tenants = refl; comings = refl; moved = refl }) still c.push_reserved.ensures.room in
    let may : MayClose _ (keyed c.args.tenant.now c.args.job.now) c.at.result.now.job.titled = record { job = (hall-found _ _ _ _ c.self.invariant here).job; open_still = still } in
    rw (← c.self.view_is) (called-one _ _ _ (Closes (keyed c.args.tenant.now c.args.job.now)) _ _ now.events (c.at.result.now.job.titled, may, refl))
