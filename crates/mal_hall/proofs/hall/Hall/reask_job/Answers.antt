use Rattle.std.proofs.Common.{◌∷◌, [], Err, refl, sym, arith}
use Rattle.spec_hall.specs.Calls.{Reasks}
use Rattle.spec_hall.specs.Dressed.{keyed}
use Rattle.spec_hall.specs.Events.{Reask}
use Rattle.spec_hall.specs.Legal.{MayReask}
use Rattle.mal_base.specs.declared.hall_fault.ReaskFault.TheVariants.{OutOfMemory}
use Rattle.mal_hall.proofs.HallLemmas.{Grown, placed, placed-below, sits, hall-absent, hall-place, hall-found, hall-reask, hall-waited, called-none, called-one}
use Rattle.mal_hall.proofs.Parts.{parts}
use Rattle.mal_hall.proofs.RoomLemmas.{room-kept}
use Rattle.mal_hall.proofs.hall.Hall.reask_job.Goals as goal
use Rattle.mal_hall.proofs.hall.Hall.reask_job.Goals.{In-Ok}

pub owed-owed-requires : goal.owed-owed-requires
owed-owed-requires c = room-kept (parts c.self.inside) _ c.self.invariant c.deref.ensures.value

pub returns-in_default-clause-call : goal.returns-in_default-clause-call
returns-in_default-clause-call c =
    rw (← c.self.view_is) (called-none _ _ (Reasks (keyed c.args.tenant.now c.args.job.now) c.args.weight) _ (hall-absent _ _ c.self.invariant (placed c.self.inside.seats (keyed c.args.tenant.now c.args.job.now) _ _ (hall-place _ (keyed c.args.tenant.now c.args.job.now) _ c.self.invariant c.place_of.ensures) c.in_default.is), refl))

pub at-requires : goal.at-requires
at-requires c = omega (arith, placed-below c.self.inside.seats (keyed c.args.tenant.now c.args.job.now) _ _ (hall-place _ (keyed c.args.tenant.now c.args.job.now) _ c.self.invariant c.place_of.ensures) c.in-Some.is)

pub enter_reask-requires-clause-place : goal.enter_reask-requires-clause-place
enter_reask-requires-clause-place c = omega (arith, placed-below c.self.inside.seats (keyed c.args.tenant.now c.args.job.now) _ _ (hall-place _ (keyed c.args.tenant.now c.args.job.now) _ c.self.invariant c.place_of.ensures) c.in-Some.is)

pub returns-then-is_closed-clause-call : goal.returns-then-is_closed-clause-call
returns-then-is_closed-clause-call c =
    let here = sits c.self.inside.seats (keyed c.args.tenant.now c.args.job.now) _ _ _ (hall-place _ (keyed c.args.tenant.now c.args.job.now) _ c.self.invariant c.place_of.ensures) c.in-Some.is c.at.ensures in
    let closed = rw (c.job.ensures, c.if-is_closed.true) at c.is_closed.ensures in
    rw (← c.self.view_is) (called-none _ _ (Reasks (keyed c.args.tenant.now c.args.job.now) c.args.weight) _ (c.at.result.now.job.titled, (hall-found _ _ _ _ c.self.invariant here).job, sym closed, refl))

pub invariant_of-self : goal.invariant_of-self
invariant_of-self c = hall-waited (parts c.self.inside) c.enter_reask.new.entries c.enter_reask.new.seats c.self.invariant c.in-Err.ensures.err

pub returns-in-Err-clause-err : goal.returns-in-Err-clause-err
returns-in-Err-clause-err c = rw (← c.self.view_is, c.in-Err.ensures.err.events) refl

pub returns-in-Err-clause-call : goal.returns-in-Err-clause-call
returns-in-Err-clause-call c =
    let here = sits c.self.inside.seats (keyed c.args.tenant.now c.args.job.now) _ _ _ (hall-place _ (keyed c.args.tenant.now c.args.job.now) _ c.self.invariant c.place_of.ensures) c.in-Some.is c.at.ensures in
    let still = sym (rw (c.job.ensures, c.if-is_closed.false) at c.is_closed.ensures) in
    let may : MayReask _ (keyed c.args.tenant.now c.args.job.now) c.args.weight c.at.result.now.job.titled = record { job = (hall-found _ _ _ _ c.self.invariant here).job; open_still = still; weighed = c.priority.ensures.form } in
    rw (← c.self.view_is, c.in-Err.ensures.err.events) (called-none _ _ (Reasks (keyed c.args.tenant.now c.args.job.now) c.args.weight) (Err OutOfMemory) (c.at.result.now.job.titled, may, refl))

-- it was entered that the job asks anew
reasked : (c : In-Ok) → Grown (parts c.self.inside) (record { entries = c.enter_reask.new.entries; seats = c.enter_reask.new.seats; spots = c.self.inside.spots.items; names = c.self.inside.names; starts = c.self.inside.starts; unclosed = c.self.inside.unclosed; tenants = c.self.inside.tenants; comings = c.self.inside.comings; moved = c.self.inside.moved }) (Reask (keyed c.args.tenant.now c.args.job.now) c.args.weight ∷ [])
reasked c =
    let here = sits c.self.inside.seats (keyed c.args.tenant.now c.args.job.now) _ _ _ (hall-place _ (keyed c.args.tenant.now c.args.job.now) _ c.self.invariant c.place_of.ensures) c.in-Some.is c.at.ensures in
    let still = sym (rw (c.job.ensures, c.if-is_closed.false) at c.is_closed.ensures) in
    let may : MayReask _ (keyed c.args.tenant.now c.args.job.now) c.args.weight c.at.result.now.job.titled = record { job = (hall-found _ _ _ _ c.self.invariant here).job; open_still = still; weighed = c.priority.ensures.form } in
    let owing = rw c.deref.ensures.value at c.owed-owed.ensures.value in
    let e = c.in-Ok.ensures in
    hall-reask (parts c.self.inside) _ (keyed c.args.tenant.now c.args.job.now) _ _ c.args.weight c.self.invariant here e.workers (e.events _ here.seat) (e.seats _ here.seat) refl refl refl (record { names = refl; tenants = refl; comings = refl; moved = refl }) may (omega (arith, owing, e.room))

pub invariant_of-self-2 : goal.invariant_of-self-2
invariant_of-self-2 c = (reasked c).hall

pub returns-clause-ok : goal.returns-clause-ok
returns-clause-ok c = rw (← c.self.view_is) (reasked c).events

pub returns-clause-call : goal.returns-clause-call
returns-clause-call c =
    let here = sits c.self.inside.seats (keyed c.args.tenant.now c.args.job.now) _ _ _ (hall-place _ (keyed c.args.tenant.now c.args.job.now) _ c.self.invariant c.place_of.ensures) c.in-Some.is c.at.ensures in
    let still = sym (rw (c.job.ensures, c.if-is_closed.false) at c.is_closed.ensures) in
    let may : MayReask _ (keyed c.args.tenant.now c.args.job.now) c.args.weight c.at.result.now.job.titled = record { job = (hall-found _ _ _ _ c.self.invariant here).job; open_still = still; weighed = c.priority.ensures.form } in
    rw (← c.self.view_is) (called-one _ _ _ (Reasks (keyed c.args.tenant.now c.args.job.now) c.args.weight) _ _ (reasked c).events (c.at.result.now.job.titled, may, refl))
