use Rattle.std.proofs.Common.{◌≤◌, arith, refl, sym, ◌∙◌}
use Rattle.spec_hall.specs.Dressed.{keyed}
use Rattle.mal_hall.proofs.ApplyLemmas.{held-none, held-other, held-test}
use Rattle.mal_hall.proofs.Parts.{parts}
use Rattle.mal_hall.proofs.PhaseLemmas.{none-out, spot-is, spot-there, zero-none}
use Rattle.mal_hall.proofs.hall.Hall.holds.Goals as goal

pub returns-then-worker-eq0-clause-value : goal.returns-then-worker-eq0-clause-value
returns-then-worker-eq0-clause-value c = rw (← c.self.view_is) (held-none c.self.inside.entries.events c.args.worker c.args.index (keyed c.args.tenant.now c.args.job.now) (zero-none _ c.args.worker c.args.worker c.self.invariant refl c.if-worker-eq0.true))

pub returns-in_default-clause-value : goal.returns-in_default-clause-value
returns-in_default-clause-value c =
    let low : 1 ≤ c.args.worker = omega (arith, c.if-worker-eq0.false) in
    rw (← c.self.view_is) (held-none c.self.inside.entries.events c.args.worker c.args.index (keyed c.args.tenant.now c.args.job.now) (none-out _ _ c.args.worker _ c.self.invariant c.deref.ensures.value low c.spot_of.ensures c.in_default.is))

pub returns-then-index-clause-value : goal.returns-then-index-clause-value
returns-then-index-clause-value c =
    let low : 1 ≤ c.args.worker = omega (arith, c.if-worker-eq0.false) in
    let is = spot-is _ _ c.args.worker _ c.in-Some.spot c.self.invariant c.deref.ensures.value low c.spot_of.ensures c.in-Some.is in
    rw (← c.self.view_is) (held-other _ c.args.worker c.args.index (keyed c.args.tenant.now c.args.job.now) c.in-Some.spot c.self.invariant is (λ q. c.if-index.true (c.index.ensures ∙ q)))

pub unreachable-requires : goal.unreachable-requires
unreachable-requires c =
    let low : 1 ≤ c.args.worker = omega (arith, c.if-worker-eq0.false) in
    let is = spot-is (parts c.self.inside) _ c.args.worker _ c.in-Some.spot c.self.invariant c.deref.ensures.value low c.spot_of.ensures c.in-Some.is in
    spot-there (parts c.self.inside) _ c.in-Some.spot _ is (rw c.job.ensures at c.place_of_number.ensures) c.in_default-place_of_number.is

pub returns-clause-value : goal.returns-clause-value
returns-clause-value c =
    let low : 1 ≤ c.args.worker = omega (arith, c.if-worker-eq0.false) in
    let is = spot-is _ _ c.args.worker _ c.in-Some.spot c.self.invariant c.deref.ensures.value low c.spot_of.ensures c.in-Some.is in
    rw (← c.self.view_is) (held-test _ c.args.worker c.args.index (keyed c.args.tenant.now c.args.job.now) c.in-Some.spot _ c.in-Some-place_of_number.at _ c.self.invariant is (sym c.index.ensures ∙ c.if-index.false) (rw c.job.ensures at c.place_of_number.ensures) c.in-Some-place_of_number.is (rw (← c.self.view_is) at c.is_named.ensures))
