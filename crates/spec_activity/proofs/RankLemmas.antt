use Rattle.std.proofs.Common.{◌≡◌, ◌≢◌, ℕ, ◌≤◌, true, false, arith}
use Rattle.std.proofs.lemmas.Bool.Decides.{nat_tests}
use Rattle.spec_activity.specs.Rank.{is_before}

pub before-itself : (index a v : ℕ) → is_before index a v a v ≡ false
before-itself index a v = grind (arith, nat_tests)

pub before-trans : (index a u b v c w : ℕ) → is_before index a u b v ≡ true → is_before index b v c w ≡ true → is_before index a u c w ≡ true
before-trans index a u b v c w h k = grind (arith, nat_tests)

pub before-total : (index a v b w : ℕ) → v ≢ w → is_before index a v b w ≡ false → is_before index b w a v ≡ true
before-total index a v b w h k = grind (arith, nat_tests)

pub before-rise : (index a v b w more : ℕ) → b ≤ more → is_before index a v more w ≡ true → is_before index a v b w ≡ true
before-rise index a v b w more l h = grind (arith, nat_tests)
