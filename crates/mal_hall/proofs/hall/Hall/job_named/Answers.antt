use Rattle.std.proofs.Common.{arith}
use Rattle.spec_hall.specs.Dressed.{keyed}
use Rattle.mal_hall.proofs.HallLemmas.{hall-absent, hall-place, hall-found, hall-right, placed, placed-below, sits}
use Rattle.mal_hall.proofs.hall.Hall.job_named.Goals as goal

pub returns-in_default-clause-found : goal.returns-in_default-clause-found
returns-in_default-clause-found c = rw (← c.self.view_is) (hall-absent _ _ c.self.invariant (placed c.self.inside.seats (keyed c.args.tenant.now c.args.job.now) _ _ (hall-place _ (keyed c.args.tenant.now c.args.job.now) _ c.self.invariant c.place_of.ensures) c.in_default.is))

pub returns-in_default-clause-right : goal.returns-in_default-clause-right
returns-in_default-clause-right c = rw (← c.self.view_is) (hall-right _ c.self.invariant _)

pub at-requires : goal.at-requires
at-requires c = omega (arith, placed-below c.self.inside.seats (keyed c.args.tenant.now c.args.job.now) _ _ (hall-place _ (keyed c.args.tenant.now c.args.job.now) _ c.self.invariant c.place_of.ensures) c.in-Some.is)

pub returns : goal.returns
returns c =
    let here = sits c.self.inside.seats (keyed c.args.tenant.now c.args.job.now) _ _ _ (hall-place _ (keyed c.args.tenant.now c.args.job.now) _ c.self.invariant c.place_of.ensures) c.in-Some.is c.at.ensures in
    let found = hall-found _ _ _ _ c.self.invariant here in
    rw (← c.self.view_is, c.job.ensures) (record { found = found.job; key = found.key; right = hall-right _ c.self.invariant _ })
