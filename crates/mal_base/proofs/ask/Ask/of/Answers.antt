use Rattle.std.proofs.Common.{◌≡◌, ℕ, ◌<◌, ◌^◌, ℤ, pos, ◌≤ℤ◌, to_z, of_z, w64, refl, subst, arith}
use Rattle.std.specs.Int.Signed.{mag}
use Rattle.std.proofs.lemmas.Int.{ints}
use Rattle.mal_base.specs.Limits.{limits}
use Rattle.mal_base.proofs.ask.Ask.of.Goals as goal

-- a number from 1 to this one
abbrev Ranged : ℕ → ℤ → Type 0
Ranged max z = (pos 1 ≤ℤ z) × (z ≤ℤ pos max)

-- a number is read back from its bits
read-back : (z : ℤ) → mag z < 2 ^ 63 → to_z w64 (of_z w64 z) ≡ z
read-back z h = omega (arith, ints)

pub returns-clause-some : goal.returns-clause-some
returns-clause-some c =
    let x = subst (Ranged limits.priority) (read-back c.args.priority c.ranges.priority.sfits) (c.is_up_to.ensures.range.0 c.if-not-is_up_to.false) in
    let y = subst (Ranged limits.demand) (read-back c.args.demand c.ranges.demand.sfits) (c.is_up_to-2.ensures.range.0 c.if-not-is_up_to-2.false) in
    let z = subst (Ranged limits.slices) (read-back c.args.slices c.ranges.slices.sfits) (c.is_up_to-else-not-is_up_to-2.ensures.range.0 c.if-not-is_up_to-3.false) in
    (λ same. record { some_priority = x.0; priority_bound = x.1; some_demand = y.0; demand_bound = y.1; some_slices = z.0; slices_bound = z.1 }, λ is. refl)
