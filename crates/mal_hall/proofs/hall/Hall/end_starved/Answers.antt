use Rattle.std.proofs.Common.{◌-◌, None, Some, slice_set, refl}
use Rattle.mal_base.specs.declared.verdict.Outcome.TheVariants.{Starved}
use Rattle.mal_hall.specs.Applied.{unrun}
use Rattle.mal_hall.proofs.ApplyLemmas.{starve-may}
use Rattle.mal_hall.proofs.Parts.{parts}
use Rattle.mal_hall.proofs.PhaseLemmas.{Ended, end-spot, ends-at, phase-end, spot-is, spot-there}
use Rattle.mal_hall.proofs.hall.Hall.end_starved.Goals as goal

pub unreachable-requires : goal.unreachable-requires
unreachable-requires c = end-spot _ _ _ _ _ c.self.invariant c.deref.ensures.value c.requires.some c.spot_of.ensures c.in_default.is (rw (← c.self.view_is) at c.requires.may)

pub unreachable-requires-in_default-place_of_number : goal.unreachable-requires-in_default-place_of_number
unreachable-requires-in_default-place_of_number c = spot-there (parts c.self.inside) _ c.in-Some.spot _ (spot-is (parts c.self.inside) _ c.args.worker _ c.in-Some.spot c.self.invariant c.deref.ensures.value c.requires.some c.spot_of.ensures c.in-Some.is) (rw c.job.ensures at c.place_of_number.ensures) c.in_default-place_of_number.is

pub enter_starved-requires-clause-place : goal.enter_starved-requires-clause-place
enter_starved-requires-clause-place c = (ends-at (parts c.self.inside) _ c.args.worker _ c.in-Some.spot _ c.in-Some-place_of_number.at (Some (unrun c.args.worker c.args.kept)) c.self.invariant c.deref.ensures.value c.requires.some c.spot_of.ensures c.in-Some.is (rw c.job.ensures at c.place_of_number.ensures) c.in-Some-place_of_number.is (rw (← c.self.view_is) at c.requires.may)).place

pub enter_starved-requires-clause-kept : goal.enter_starved-requires-clause-kept
enter_starved-requires-clause-kept c = rw c.index.ensures (λ s there. starve-may s.job c.in-Some.spot.index c.args.worker c.args.kept ((ends-at (parts c.self.inside) _ c.args.worker _ c.in-Some.spot _ c.in-Some-place_of_number.at (Some (unrun c.args.worker c.args.kept)) c.self.invariant c.deref.ensures.value c.requires.some c.spot_of.ensures c.in-Some.is (rw c.job.ensures at c.place_of_number.ensures) c.in-Some-place_of_number.is (rw (← c.self.view_is) at c.requires.may)).may s there))

pub enter_starved-requires-clause-room : goal.enter_starved-requires-clause-room
enter_starved-requires-clause-room c = (ends-at (parts c.self.inside) _ c.args.worker _ c.in-Some.spot _ c.in-Some-place_of_number.at (Some (unrun c.args.worker c.args.kept)) c.self.invariant c.deref.ensures.value c.requires.some c.spot_of.ensures c.in-Some.is (rw c.job.ensures at c.place_of_number.ensures) c.in-Some-place_of_number.is (rw (← c.self.view_is) at c.requires.may)).room

pub invariant_of-self : goal.invariant_of-self
invariant_of-self c =
    let at = ends-at (parts c.self.inside) _ c.args.worker _ c.in-Some.spot _ c.in-Some-place_of_number.at (Some (unrun c.args.worker c.args.kept)) c.self.invariant c.deref.ensures.value c.requires.some c.spot_of.ensures c.in-Some.is (rw c.job.ensures at c.place_of_number.ensures) c.in-Some-place_of_number.is (rw (← c.self.view_is) at c.requires.may) in
    let e = rw c.index.ensures at c.enter_starved.ensures in
    let now : Ended (parts c.self.inside) (record { entries = c.enter_starved.new.entries; seats = c.enter_starved.new.seats; spots = slice_set c.self.inside.spots.items (c.args.worker - 1) None; names = c.self.inside.names; starts = c.self.inside.starts; unclosed = c.self.inside.unclosed; tenants = c.self.inside.tenants; comings = c.self.inside.comings; moved = c.self.inside.moved }) c.args.worker Starved = phase-end (parts c.self.inside) _ c.args.worker c.in-Some.spot c.in-Some-place_of_number.at at.seat Starved c.self.invariant at.sits e.workers (e.events at.seat at.sits.seat.is) (e.seats at.seat at.sits.seat.is) refl refl refl (record { names = refl; tenants = refl; comings = refl; moved = refl }) e.room in
    now.hall

pub returns-clause-ended : goal.returns-clause-ended
returns-clause-ended c =
    let at = ends-at (parts c.self.inside) _ c.args.worker _ c.in-Some.spot _ c.in-Some-place_of_number.at (Some (unrun c.args.worker c.args.kept)) c.self.invariant c.deref.ensures.value c.requires.some c.spot_of.ensures c.in-Some.is (rw c.job.ensures at c.place_of_number.ensures) c.in-Some-place_of_number.is (rw (← c.self.view_is) at c.requires.may) in
    let e = rw c.index.ensures at c.enter_starved.ensures in
    let now : Ended (parts c.self.inside) (record { entries = c.enter_starved.new.entries; seats = c.enter_starved.new.seats; spots = slice_set c.self.inside.spots.items (c.args.worker - 1) None; names = c.self.inside.names; starts = c.self.inside.starts; unclosed = c.self.inside.unclosed; tenants = c.self.inside.tenants; comings = c.self.inside.comings; moved = c.self.inside.moved }) c.args.worker Starved = phase-end (parts c.self.inside) _ c.args.worker c.in-Some.spot c.in-Some-place_of_number.at at.seat Starved c.self.invariant at.sits e.workers (e.events at.seat at.sits.seat.is) (e.seats at.seat at.sits.seat.is) refl refl refl (record { names = refl; tenants = refl; comings = refl; moved = refl }) e.room in
    rw (← c.self.view_is) now.has
