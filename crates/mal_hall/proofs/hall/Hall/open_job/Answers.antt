use Rattle.std.proofs.Common.{◌+◌, [], ◌∷◌, ◌∙◌, refl, arith, Err}
use Rattle.std.proofs.lemmas.Result.{err_from_is_err_and}
use Rattle.mal_base.specs.declared.hall_fault.OpenFault.TheVariants.{Duplicate, OutOfMemory}
use Rattle.spec_hall.specs.Calls.{Opens}
use Rattle.spec_hall.specs.Dressed.{keyed}
use Rattle.spec_hall.specs.Events.{Open}
use Rattle.spec_hall.specs.Legal.{MayOpen}
use Rattle.mal_hall.proofs.HallLemmas.{Grown, hall-above, hall-named, hall-jobs, hall-open, hall-refused, may-open, called-none, called-one}
use Rattle.mal_hall.proofs.Parts.{parts}
use Rattle.mal_hall.proofs.RoomLemmas.{room-kept}
use Rattle.mal_hall.proofs.hall.Hall.open_job.Goals as goal
use Rattle.mal_hall.proofs.hall.Hall.open_job.Goals.{After-self-3-1}

pub owed-owed-requires : goal.owed-owed-requires
owed-owed-requires c = room-kept (parts c.self.inside) _ c.self.invariant c.deref.ensures.value

pub returns-then-is_some-clause-call : goal.returns-then-is_some-clause-call
returns-then-is_some-clause-call c =
    rw (← c.self.view_is) (called-none _ _ (Opens (keyed c.args.tenant c.args.job) c.args.ask) (Err Duplicate) (hall-named _ (keyed c.args.tenant c.args.job) _ _ c.self.invariant c.number_of.ensures c.is_some.ensures ∙ c.if-is_some.true, refl))

pub returns-in_err-tenants-clause-call : goal.returns-in_err-tenants-clause-call
returns-in_err-tenants-clause-call c =
    let none = hall-named _ (keyed c.args.tenant c.args.job) _ _ c.self.invariant c.number_of.ensures c.is_some.ensures ∙ c.if-is_some.false in
    let jobs = hall-jobs _ c.args.tenant _ c.self.invariant c.jobs_of-jobs.ensures in
    let p = err_from_is_err_and c.from_residual.result c.from_residual.ensures.1 in
    let cause = c.in_err-tenants.ensures.refusal (keyed c.args.tenant c.args.job) c.args.ask c.self.inside.entries.events none jobs c.self.invariant.noted.tenants_is in
    rw (p.1, p.2) (rw (← c.self.view_is) (called-none _ _ (Opens (keyed c.args.tenant c.args.job) c.args.ask) (Err c.in_err-tenants.field-0.0) cause))

pub enter_open-requires-clause-above : goal.enter_open-requires-clause-above
enter_open-requires-clause-above c = hall-above (parts c.self.inside) c.self.invariant

pub enter_open-requires-clause-few : goal.enter_open-requires-clause-few
enter_open-requires-clause-few c = omega (arith, c.jobs_of-jobs.ensures, c.in_ok-tenants.ensures.few)

pub invariant_of-self : goal.invariant_of-self
invariant_of-self c = hall-refused (parts c.self.inside) c.enter_open.new.entries c.enter_open.new.seats c.enter_open.new.names c.self.invariant c.in-Err.ensures.err c.in-Err.ensures.alike

pub returns-in-Err-clause-err : goal.returns-in-Err-clause-err
returns-in-Err-clause-err c = rw (← c.self.view_is, c.in-Err.ensures.err.events) refl

pub returns-then-self-clause-call : goal.returns-then-self-clause-call
returns-then-self-clause-call c =
    let fresh = hall-named (parts c.self.inside) (keyed c.args.tenant c.args.job) _ _ c.self.invariant c.number_of.ensures c.is_some.ensures ∙ c.if-is_some.false in
    let may = may-open (parts c.self.inside) (keyed c.args.tenant c.args.job) c.args.ask _ c.self.invariant c.are_in_form.ensures.tenant c.are_in_form.ensures.job c.are_in_form.ensures.ask fresh (hall-jobs _ c.args.tenant _ c.self.invariant c.jobs_of-jobs.ensures) c.in_ok-tenants.ensures.few c.in_ok-tenants.ensures.others in
    rw (← c.self.view_is) (called-none _ _ (Opens (keyed c.args.tenant c.args.job) c.args.ask) (Err OutOfMemory) (may, refl))

pub returns-in-Err-clause-call : goal.returns-in-Err-clause-call
returns-in-Err-clause-call c =
    let fresh = hall-named (parts c.self.inside) (keyed c.args.tenant c.args.job) _ _ c.self.invariant c.number_of.ensures c.is_some.ensures ∙ c.if-is_some.false in
    let may = may-open (parts c.self.inside) (keyed c.args.tenant c.args.job) c.args.ask _ c.self.invariant c.are_in_form.ensures.tenant c.are_in_form.ensures.job c.are_in_form.ensures.ask fresh (hall-jobs _ c.args.tenant _ c.self.invariant c.jobs_of-jobs.ensures) c.in_ok-tenants.ensures.few c.in_ok-tenants.ensures.others in
    rw (← c.self.view_is, c.in-Err.ensures.err.events) (called-none _ _ (Opens (keyed c.args.tenant c.args.job) c.args.ask) (Err OutOfMemory) (may, refl))

-- the opening was allowed
may : (c : After-self-3-1) → MayOpen c.self.inside.entries.events (keyed c.args.tenant c.args.job) c.args.ask
may c =
    let fresh = hall-named (parts c.self.inside) (keyed c.args.tenant c.args.job) _ _ c.self.invariant c.number_of.ensures c.is_some.ensures ∙ c.if-is_some.false in
    may-open (parts c.self.inside) (keyed c.args.tenant c.args.job) c.args.ask _ c.self.invariant c.are_in_form.ensures.tenant c.are_in_form.ensures.job c.are_in_form.ensures.ask fresh (hall-jobs _ c.args.tenant _ c.self.invariant c.jobs_of-jobs.ensures) c.in_ok-tenants.ensures.few c.in_ok-tenants.ensures.others

-- it was entered
opened : (c : After-self-3-1) → Grown (parts c.self.inside) (record { entries = c.enter_open.new.entries; seats = c.enter_open.new.seats; spots = c.self.inside.spots.items; names = c.enter_open.new.names; starts = c.self.inside.starts; unclosed = c.self.inside.unclosed + 1; tenants = c.in_ok-tenants.tenants; comings = c.self.inside.comings + 1; moved = c.self.inside.moved }) (Open (keyed c.args.tenant c.args.job) c.args.ask ∷ [])
opened c =
    let owing = rw c.deref.ensures.value at c.owed-owed.ensures.value in
    let e = c.in-Ok.ensures in
    hall-open (parts c.self.inside) _ (keyed c.args.tenant c.args.job) c.args.ask c.jobs_of-jobs.result c.self.invariant e.workers e.events e.seats refl refl e.names (may c) (hall-jobs _ c.args.tenant _ c.self.invariant c.jobs_of-jobs.ensures) refl c.in_ok-tenants.ensures.count refl refl (omega (arith, owing, e.room))

pub invariant_of-self-2 : goal.invariant_of-self-2
invariant_of-self-2 c = (opened c).hall

pub returns-clause-ok : goal.returns-clause-ok
returns-clause-ok c = rw (← c.self.view_is) (opened c).events

pub returns-clause-call : goal.returns-clause-call
returns-clause-call c = rw (← c.self.view_is) (called-one _ _ _ (Opens (keyed c.args.tenant c.args.job) c.args.ask) _ _ (opened c).events (may c, refl))
