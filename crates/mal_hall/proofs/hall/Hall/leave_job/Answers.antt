use Rattle.std.proofs.Common.{ℕ, ◌-◌, ◌∙◌, true, refl, ap, arith}
use Rattle.spec_hall.specs.Calls.{Leaves}
use Rattle.spec_hall.specs.Dressed.{keyed}
use Rattle.mal_hall.specs.Moving.{open_one}
use Rattle.mal_hall.proofs.HallLemmas.{called-one, hall-absent, hall-found, hall-place, placed, placed-below, sits}
use Rattle.mal_hall.proofs.MovingLemmas.{hall-counted, hall-leave, hall-there}
use Rattle.mal_hall.proofs.Parts.{parts}
use Rattle.mal_hall.proofs.hall.Hall.leave_job.Goals as goal

pub unreachable-requires : goal.unreachable-requires
unreachable-requires c =
    let may = rw (← c.self.view_is) at c.requires.may in
    hall-there c.self.inside.entries.events (keyed c.args.tenant.now c.args.job.now) may.0 may.1 (hall-absent (parts c.self.inside) (keyed c.args.tenant.now c.args.job.now) c.self.invariant (placed c.self.inside.seats (keyed c.args.tenant.now c.args.job.now) _ _ (hall-place (parts c.self.inside) (keyed c.args.tenant.now c.args.job.now) _ c.self.invariant c.place_of.ensures) c.in_default.is))

pub at-requires : goal.at-requires
at-requires c = omega (arith, placed-below c.self.inside.seats (keyed c.args.tenant.now c.args.job.now) _ _ (hall-place (parts c.self.inside) (keyed c.args.tenant.now c.args.job.now) _ c.self.invariant c.place_of.ensures) c.in-Some.is)

pub enter_leave-requires-clause-place : goal.enter_leave-requires-clause-place
enter_leave-requires-clause-place c = omega (arith, placed-below c.self.inside.seats (keyed c.args.tenant.now c.args.job.now) _ _ (hall-place (parts c.self.inside) (keyed c.args.tenant.now c.args.job.now) _ c.self.invariant c.place_of.ensures) c.in-Some.is)

pub overflow_sub-self : goal.overflow_sub-self
overflow_sub-self c =
    let here = sits c.self.inside.seats (keyed c.args.tenant.now c.args.job.now) _ _ _ (hall-place (parts c.self.inside) (keyed c.args.tenant.now c.args.job.now) _ c.self.invariant c.place_of.ensures) c.in-Some.is c.at.ensures in
    let closed = rw c.job.ensures at c.is_closed.ensures in
    let counted = c.open_one-one.ensures.value ∙ ap open_one closed in
    omega (arith, counted, hall-counted (parts c.self.inside) (keyed c.args.tenant.now c.args.job.now) _ _ c.self.invariant here)

pub invariant_of-self : goal.invariant_of-self
invariant_of-self c =
    let here = sits c.self.inside.seats (keyed c.args.tenant.now c.args.job.now) _ _ _ (hall-place (parts c.self.inside) (keyed c.args.tenant.now c.args.job.now) _ c.self.invariant c.place_of.ensures) c.in-Some.is c.at.ensures in
    let closed = rw c.job.ensures at c.is_closed.ensures in
    let counted = c.open_one-one.ensures.value ∙ ap open_one closed in
    let may = rw (← c.self.view_is) at c.requires.may in
    let e = c.enter_leave.ensures in
    let now = hall-leave (parts c.self.inside) (record { entries = c.enter_leave.new.entries; seats = c.enter_leave.new.seats; spots = c.self.inside.spots.items; names = c.self.inside.names; starts = c.self.inside.starts; unclosed = c.self.inside.unclosed - c.open_one-one.result; tenants = c.self.inside.tenants; comings = c.self.inside.comings; moved = true }) (keyed c.args.tenant.now c.args.job.now) _ _ may.0 c.self.invariant here may.1 e.workers (e.events _ here.seat) (hall-found _ _ _ _ c.self.invariant here).key e.seats refl refl (ap (λ (n : ℕ). c.self.inside.unclosed - n) counted) refl refl refl refl e.room in
    now.hall

pub returns-clause-call : goal.returns-clause-call
returns-clause-call c =
    let here = sits c.self.inside.seats (keyed c.args.tenant.now c.args.job.now) _ _ _ (hall-place (parts c.self.inside) (keyed c.args.tenant.now c.args.job.now) _ c.self.invariant c.place_of.ensures) c.in-Some.is c.at.ensures in
    let closed = rw c.job.ensures at c.is_closed.ensures in
    let counted = c.open_one-one.ensures.value ∙ ap open_one closed in
    let may = rw (← c.self.view_is) at c.requires.may in
    let e = c.enter_leave.ensures in
    let now = hall-leave (parts c.self.inside) (record { entries = c.enter_leave.new.entries; seats = c.enter_leave.new.seats; spots = c.self.inside.spots.items; names = c.self.inside.names; starts = c.self.inside.starts; unclosed = c.self.inside.unclosed - c.open_one-one.result; tenants = c.self.inside.tenants; comings = c.self.inside.comings; moved = true }) (keyed c.args.tenant.now c.args.job.now) _ _ may.0 c.self.invariant here may.1 e.workers (e.events _ here.seat) (hall-found _ _ _ _ c.self.invariant here).key e.seats refl refl (ap (λ (n : ℕ). c.self.inside.unclosed - n) counted) refl refl refl refl e.room in
    rw (← c.self.view_is) (called-one _ _ _ (Leaves (keyed c.args.tenant.now c.args.job.now)) _ _ now.events (may.0, may.1, refl))
