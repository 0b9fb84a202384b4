use Rattle.std.proofs.Common.{ℕ, ◌+◌, ◌∙◌, true, refl, ap, arith}
use Rattle.mal_hall.specs.Moving.{open_one}
use Rattle.mal_hall.proofs.HallLemmas.{hall-above}
use Rattle.mal_hall.proofs.MovingLemmas.{hall-arrive, hall-few, may-arrive, tenants-few}
use Rattle.mal_hall.proofs.Parts.{parts}
use Rattle.mal_hall.proofs.hall.Hall.arrive.Goals as goal

pub returns-in_err-grown-clause-may : goal.returns-in_err-grown-clause-may
returns-in_err-grown-clause-may c = may-arrive _ c.args.parcel.now.key c.args.parcel.now.own c.requires c.is_in_form.ensures.tenant c.is_in_form.ensures.job c.is_in_form.ensures.lawful c.is_in_form.ensures.home c.is_in_form.ensures.still

pub returns-in-Err-clause-may : goal.returns-in-Err-clause-may
returns-in-Err-clause-may c = may-arrive _ c.args.parcel.now.key c.args.parcel.now.own c.requires c.is_in_form.ensures.tenant c.is_in_form.ensures.job c.is_in_form.ensures.lawful c.is_in_form.ensures.home c.is_in_form.ensures.still

pub returns-clause-may : goal.returns-clause-may
returns-clause-may c = may-arrive _ c.args.parcel.now.key c.args.parcel.now.own c.requires c.is_in_form.ensures.tenant c.is_in_form.ensures.job c.is_in_form.ensures.lawful c.is_in_form.ensures.home c.is_in_form.ensures.still

pub tenants_with-tenants-requires : goal.tenants_with-tenants-requires
tenants_with-tenants-requires c = tenants-few (parts c.self.inside) c.args.parcel.now.key _ c.self.invariant (rw (← c.self.view_is) at c.requires) (rw c.tenant.ensures at c.jobs_of.ensures)

pub enter_arrive-requires-clause-above : goal.enter_arrive-requires-clause-above
enter_arrive-requires-clause-above c = hall-above (parts c.self.inside) c.self.invariant

pub enter_arrive-requires-clause-few : goal.enter_arrive-requires-clause-few
enter_arrive-requires-clause-few c = omega (arith, hall-few (parts c.self.inside) c.args.parcel.now.key.tenant c.self.invariant)

pub invariant_of-self-2 : goal.invariant_of-self-2
invariant_of-self-2 c =
    let may = (may-arrive _ c.args.parcel.now.key c.args.parcel.now.own (rw (← c.self.view_is) at c.requires) c.is_in_form.ensures.tenant c.is_in_form.ensures.job c.is_in_form.ensures.lawful c.is_in_form.ensures.home c.is_in_form.ensures.still) in
    let e = c.in-Ok.ensures in
    let owing = rw c.deref.ensures.value at c.owed-owed.ensures.value in
    let count = rw c.tenant.ensures at c.jobs_of.ensures in
    let now = hall-arrive (parts c.self.inside) (record { entries = c.enter_arrive.new.entries; seats = c.enter_arrive.new.seats; spots = c.self.inside.spots.items; names = c.enter_arrive.new.names; starts = c.self.inside.starts; unclosed = c.self.inside.unclosed + c.open_one.result; tenants = c.tenants_with-tenants.result; comings = c.self.inside.comings + 1; moved = true }) c.args.parcel.now.key c.args.parcel.now.own _ c.self.invariant e.workers e.events e.seats refl refl e.names may count (ap (λ (n : ℕ). c.self.inside.unclosed + n) (c.open_one.ensures.value ∙ ap open_one e.closed)) c.tenants_with-tenants.ensures refl refl (omega (arith, owing, e.room)) in
    now.hall
