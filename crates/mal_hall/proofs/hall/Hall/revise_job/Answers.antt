use Rattle.std.proofs.Common.{◌+◌, ◌<◌, ◌≤◌, [], ◌∷◌, length, refl, arith, Err}
use Rattle.std.proofs.lemmas.Result.{err_from_is_err_and}
use Rattle.spec_job.specs.SoloMachine.{clauses_in}
use Rattle.spec_hall.specs.Calls.{Revises}
use Rattle.spec_hall.specs.Dressed.{keyed}
use Rattle.spec_hall.specs.Events.{Revise}
use Rattle.spec_hall.specs.Seats.{Seat}
use Rattle.mal_base.specs.Limits.{limits}
use Rattle.mal_base.specs.declared.hall_fault.ReviseFault.TheVariants.{OutOfMemory}
use Rattle.mal_hall.proofs.HallLemmas.{Grown, placed, placed-below, sits, hall-absent, hall-place, hall-found, hall-next, hall-revise, hall-waited, may-revise, called-none, called-one, of-seat}
use Rattle.mal_hall.proofs.Parts.{parts}
use Rattle.mal_hall.proofs.RoomLemmas.{room-kept}
use Rattle.mal_hall.proofs.hall.Hall.revise_job.Goals as goal
use Rattle.mal_hall.proofs.hall.Hall.revise_job.Goals.{In-Ok}

pub owed-owed-requires : goal.owed-owed-requires
owed-owed-requires c = room-kept (parts c.self.inside) _ c.self.invariant c.deref.ensures.value

pub returns-in_default-clause-call : goal.returns-in_default-clause-call
returns-in_default-clause-call c =
    rw (← c.self.view_is) (called-none _ _ (Revises (keyed c.args.tenant.now c.args.job.now) c.args.revision) _ (hall-absent _ _ c.self.invariant (placed c.self.inside.seats (keyed c.args.tenant.now c.args.job.now) _ _ (hall-place _ (keyed c.args.tenant.now c.args.job.now) _ c.self.invariant c.place_of.ensures) c.in_default.is), refl))

pub at-requires : goal.at-requires
at-requires c = omega (arith, placed-below c.self.inside.seats (keyed c.args.tenant.now c.args.job.now) _ _ (hall-place _ (keyed c.args.tenant.now c.args.job.now) _ c.self.invariant c.place_of.ensures) c.in-Some.is)

pub enter_revise-requires-clause-place : goal.enter_revise-requires-clause-place
enter_revise-requires-clause-place c = omega (arith, placed-below c.self.inside.seats (keyed c.args.tenant.now c.args.job.now) _ _ (hall-place _ (keyed c.args.tenant.now c.args.job.now) _ c.self.invariant c.place_of.ensures) c.in-Some.is)

pub returns-in_err-number-clause-call : goal.returns-in_err-number-clause-call
returns-in_err-number-clause-call c =
    let here = sits c.self.inside.seats (keyed c.args.tenant.now c.args.job.now) _ _ _ (hall-place _ (keyed c.args.tenant.now c.args.job.now) _ c.self.invariant c.place_of.ensures) c.in-Some.is c.at.ensures in
    let found = hall-found _ _ _ _ c.self.invariant here in
    let cause = rw c.job.ensures at c.in_err-number.ensures.refusal in
    let p = err_from_is_err_and c.from_residual.result c.from_residual.ensures.1 in
    let mine = cause (keyed c.args.tenant.now c.args.job.now) c.self.inside.entries.events found.job in
    rw (p.1, p.2) (rw (← c.self.view_is) (called-none _ _ (Revises (keyed c.args.tenant.now c.args.job.now) c.args.revision) (Err c.in_err-number.field-0.0) mine))

pub enter_revise-requires-clause-few : goal.enter_revise-requires-clause-few
enter_revise-requires-clause-few c =
    let here = sits c.self.inside.seats (keyed c.args.tenant.now c.args.job.now) _ _ _ (hall-place _ (keyed c.args.tenant.now c.args.job.now) _ c.self.invariant c.place_of.ensures) c.in-Some.is c.at.ensures in
    let e = rw c.job.ensures at c.in_ok-number.ensures in
    of-seat (λ (s : Seat). length s.job.titled.state.revisions < limits.revisions) c.self.inside.seats c.in-Some.at c.at.result.now here.seat e.few

pub enter_revise-requires-clause-clauses : goal.enter_revise-requires-clause-clauses
enter_revise-requires-clause-clauses c =
    let here = sits c.self.inside.seats (keyed c.args.tenant.now c.args.job.now) _ _ _ (hall-place _ (keyed c.args.tenant.now c.args.job.now) _ c.self.invariant c.place_of.ensures) c.in-Some.is c.at.ensures in
    let e = rw c.job.ensures at c.in_ok-number.ensures in
    of-seat (λ (s : Seat). clauses_in s.job.titled.state.revisions + length c.args.revision.clauses ≤ limits.clauses) c.self.inside.seats c.in-Some.at c.at.result.now here.seat e.room.clauses

pub invariant_of-self : goal.invariant_of-self
invariant_of-self c = hall-waited (parts c.self.inside) c.enter_revise.new.entries c.enter_revise.new.seats c.self.invariant c.in-Err.ensures.err

pub returns-in-Err-clause-err : goal.returns-in-Err-clause-err
returns-in-Err-clause-err c = rw (← c.self.view_is, c.in-Err.ensures.err.events) refl

pub returns-in-Err-clause-call : goal.returns-in-Err-clause-call
returns-in-Err-clause-call c =
    let here = sits c.self.inside.seats (keyed c.args.tenant.now c.args.job.now) _ _ _ (hall-place _ (keyed c.args.tenant.now c.args.job.now) _ c.self.invariant c.place_of.ensures) c.in-Some.is c.at.ensures in
    let e = rw c.job.ensures at c.in_ok-number.ensures in
    let may = may-revise _ (keyed c.args.tenant.now c.args.job.now) _ _ c.args.revision c.self.invariant here e.open e.few e.room e.form in
    rw (← c.self.view_is, c.in-Err.ensures.err.events) (called-none _ _ (Revises (keyed c.args.tenant.now c.args.job.now) c.args.revision) (Err OutOfMemory) (c.at.result.now.job.titled, may, refl))

-- the revision was entered
revised : (c : In-Ok) → Grown (parts c.self.inside) (record { entries = c.enter_revise.new.entries; seats = c.enter_revise.new.seats; spots = c.self.inside.spots.items; names = c.self.inside.names; starts = c.self.inside.starts; unclosed = c.self.inside.unclosed; tenants = c.self.inside.tenants; comings = c.self.inside.comings; moved = c.self.inside.moved }) (Revise (keyed c.args.tenant.now c.args.job.now) c.in_ok-number.number c.args.revision ∷ [])
revised c =
    let here = sits c.self.inside.seats (keyed c.args.tenant.now c.args.job.now) _ _ _ (hall-place _ (keyed c.args.tenant.now c.args.job.now) _ c.self.invariant c.place_of.ensures) c.in-Some.is c.at.ensures in
    let f = rw c.job.ensures at c.in_ok-number.ensures in
    let owing = rw c.deref.ensures.value at c.owed-owed.ensures.value in
    let e = c.in-Ok.ensures in
    hall-revise (parts c.self.inside) _ (keyed c.args.tenant.now c.args.job.now) _ _ c.in_ok-number.number c.args.revision c.self.invariant here e.workers (e.events _ here.seat) (e.seats _ here.seat) refl refl refl (record { names = refl; tenants = refl; comings = refl; moved = refl }) f.number (may-revise (parts c.self.inside) (keyed c.args.tenant.now c.args.job.now) _ _ c.args.revision c.self.invariant here f.open f.few f.room f.form) (omega (arith, owing, e.room))

pub invariant_of-self-2 : goal.invariant_of-self-2
invariant_of-self-2 c = (revised c).hall

pub returns-clause-ok : goal.returns-clause-ok
returns-clause-ok c =
    let here = sits c.self.inside.seats (keyed c.args.tenant.now c.args.job.now) _ _ _ (hall-place _ (keyed c.args.tenant.now c.args.job.now) _ c.self.invariant c.place_of.ensures) c.in-Some.is c.at.ensures in
    let e = rw c.job.ensures at c.in_ok-number.ensures in
    rw (← c.self.view_is, ← hall-next _ _ _ _ (hall-found _ _ _ _ c.self.invariant here) e.number) (revised c).events

pub returns-clause-call : goal.returns-clause-call
returns-clause-call c =
    let here = sits c.self.inside.seats (keyed c.args.tenant.now c.args.job.now) _ _ _ (hall-place _ (keyed c.args.tenant.now c.args.job.now) _ c.self.invariant c.place_of.ensures) c.in-Some.is c.at.ensures in
    let e = rw c.job.ensures at c.in_ok-number.ensures in
    let may = may-revise _ (keyed c.args.tenant.now c.args.job.now) _ _ c.args.revision c.self.invariant here e.open e.few e.room e.form in
    rw (← c.self.view_is) (called-one _ _ _ (Revises (keyed c.args.tenant.now c.args.job.now) c.args.revision) _ _ (rw e.number at (revised c).events) (c.at.result.now.job.titled, may, refl))
