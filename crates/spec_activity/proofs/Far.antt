use Rattle.std.proofs.Common.{◌≡◌, ℕ, zero, suc, ◌+◌, ◌-◌, ◌/◌, ◌%◌, ◌^◌, ◌<◌, ◌≤◌, true, nat_lt, ap, ◌∙◌, arith}
use Rattle.std.specs.Prelude.{max, min}
use Rattle.std.proofs.lemmas.Bool.Decides.{nat_tests}
use Rattle.std.proofs.lemmas.Nat.{shr_below, pow_below}
use Rattle.spec_activity.specs.Activity.{unit, exponent, mantissa, carried, raised, plus}

power : (k : ℕ) → 24 ≤ k → unit ≤ 2 ^ k
power k h = by_case (k - 24) (omega arith)
  where
    by_case : (n : ℕ) → k ≡ n + 24 → unit ≤ 2 ^ k
    by_case zero e = rw e (omega arith)
    by_case (suc n) e = let less = pow_below 24 k (omega arith) in omega (arith, less)

-- a mantissa shifted out
pub gone : (m k : ℕ) → m < unit → 24 ≤ k → m / 2 ^ k ≡ 0
gone m k l h =
    let none : 0 + k ≡ k = omega arith in
    let more = power k h in
    let below = shr_below m 0 k (rw none (omega (arith, more))) in
    omega (arith, below)

greater : (a b : ℕ) → exponent b + 24 ≤ exponent a → (max a b ≡ a) × (min a b ≡ b)
greater a b h = (omega arith, omega arith)

whole : (a : ℕ) → carried (exponent a) (mantissa a + 0) ≡ a
whole a =
    let lt : nat_lt (a % unit + 0) unit ≡ true = grind (arith, nat_tests) in
    rw lt (omega arith)

pub far : (a b : ℕ) → exponent b + 24 ≤ exponent a → plus a b ≡ a
far a b h =
    let g = greater a b h in
    let none : mantissa b / 2 ^ (exponent a - exponent b) ≡ 0 = gone (mantissa b) (exponent a - exponent b) (omega arith) (omega arith) in
    ap (λ (x : ℕ). raised x (min a b)) g.0 ∙ (ap (raised a) g.1 ∙ (ap (λ (x : ℕ). carried (exponent a) (mantissa a + x)) none ∙ whole a))
