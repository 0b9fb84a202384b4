use Rattle.std.proofs.Common.{◌≡◌, ℕ, zero, suc, ◌+◌, ◌-◌, ◌*◌, ◌^◌, ◌<◌, ◌≤◌, true, false, nat_lt, eqb, refl, sym, ap, ◌∙◌, subst, arith}
use Rattle.std.proofs.lemmas.Bool.Decides.{nat_tests}
use Rattle.spec_seq.specs.Luby.{luby, luby_below}

lt_test : (a b : ℕ) → a < b → nat_lt a b ≡ true
lt_test a b = grind (arith, nat_tests)

not_lt : (a b : ℕ) → b ≤ a → nat_lt a b ≡ false
not_lt a b = grind (arith, nat_tests)

eq_test : (a b : ℕ) → a ≡ b → eqb a b ≡ true
eq_test a b = grind (arith, nat_tests)

not_eq : (a b : ℕ) → a < b → eqb a b ≡ false
not_eq a b = grind (arith, nat_tests)

differ : (a b : ℕ) → (a ≡ b → ⊥) → eqb a b ≡ false
differ a b = grind (arith, nat_tests)

pub double : (k : ℕ) → 2 ^ suc k ≡ 2 * 2 ^ k
double k = omega arith

pub power-some : (k : ℕ) → 1 ≤ 2 ^ k
power-some zero = omega arith
power-some (suc k) = let twice : 2 ^ suc k ≡ 2 * 2 ^ k = double k in omega (arith, power-some k)

powers : (a b : ℕ) → 2 ^ b ≤ 2 ^ (a + b)
powers zero b =
    let same : 0 + b ≡ b = omega arith in
    rw same (omega arith)
powers (suc a) b =
    let sum : suc a + b ≡ suc (a + b) = omega arith in
    let twice : 2 ^ suc (a + b) ≡ 2 * 2 ^ (a + b) = double (a + b) in
    rw sum (omega (arith, powers a b, twice))

-- places below 2^k need no more than k rounds
less-rounds : (m k i : ℕ) → i < 2 ^ k → luby_below (m + k) i ≡ luby_below k i
less-rounds zero k i l =
    let same : 0 + k ≡ k = omega arith in
    rw same refl
less-rounds (suc m) k i l =
    let more : suc m + k ≡ suc (m + k) = omega arith in
    let grows : 2 ^ k ≤ 2 ^ (m + k) = powers m k in
    let twice : 2 ^ suc (m + k) ≡ 2 * 2 ^ (m + k) = double (m + k) in
    let other : eqb (i + 1) (2 ^ suc (m + k)) ≡ false = not_eq (i + 1) (2 ^ suc (m + k)) (omega arith) in
    let below : nat_lt i (2 ^ (m + k)) ≡ true = lt_test i (2 ^ (m + k)) (omega arith) in
    rw (more, other, below) (less-rounds m k i l)

pub luby-below : (k i : ℕ) → k ≤ 64 → i < 2 ^ k → luby i ≡ luby_below k i
unfolding luby
luby-below k i b l = let sum : (64 - k) + k ≡ 64 = omega arith in subst (λ (m : ℕ). luby_below m i ≡ luby_below k i) sum (less-rounds (64 - k) k i l)

-- the three ways of a round
pub found : (k i : ℕ) → i + 1 ≡ 2 * 2 ^ k → luby_below (suc k) i ≡ 2 ^ k
found k i e =
    let same : eqb (i + 1) (2 ^ suc k) ≡ true = eq_test (i + 1) (2 ^ suc k) (e ∙ sym (double k)) in
    rw same refl

pub lower : (k i : ℕ) → (i + 1 ≡ 2 * 2 ^ k → ⊥) → i < 2 ^ k → luby_below (suc k) i ≡ luby_below k i
lower k i e l =
    let other : eqb (i + 1) (2 ^ suc k) ≡ false = differ (i + 1) (2 ^ suc k) (λ h. e (h ∙ double k)) in
    rw (other, lt_test i (2 ^ k) l) refl

pub upper : (k i : ℕ) → (i + 1 ≡ 2 * 2 ^ k → ⊥) → 2 ^ k ≤ i → luby_below (suc k) i ≡ luby_below k (i + 1 - 2 ^ k)
upper k i e l =
    let other : eqb (i + 1) (2 ^ suc k) ≡ false = differ (i + 1) (2 ^ suc k) (λ h. e (h ∙ double k)) in
    rw (other, not_lt i (2 ^ k) l) refl

pub peaks : (k : ℕ) → k < 64 → luby (2 ^ (k + 1) - 1) ≡ 2 ^ k
peaks k l =
    let more : k + 1 ≡ suc k = omega arith in
    let twice : 2 ^ suc k ≡ 2 * 2 ^ k = double k in
    let some : 1 ≤ 2 ^ suc k = power-some (suc k) in
    let up : 2 ^ suc k - 1 + 1 ≡ 2 * 2 ^ k = omega arith in
    rw more (luby-below (suc k) (2 ^ suc k - 1) (omega arith) (omega arith) ∙ found k (2 ^ suc k - 1) up)

pub repeats : (k i : ℕ) → k < 64 → 2 ^ k ≤ i → i < 2 ^ (k + 1) - 1 → luby i ≡ luby (i - 2 ^ k + 1)
repeats k i l low high =
    let more : k + 1 ≡ suc k = omega arith in
    let twice : 2 ^ suc k ≡ 2 * 2 ^ k = double k in
    let below : i < 2 ^ suc k - 1 = subst (λ (m : ℕ). i < 2 ^ m - 1) more high in
    let same : i + 1 - 2 ^ k ≡ i - 2 ^ k + 1 = omega arith in
    luby-below (suc k) i (omega arith) (omega arith) ∙ (upper k i (λ h. absurd (omega arith)) low ∙ (ap (luby_below k) same ∙ sym (luby-below k (i - 2 ^ k + 1) (omega arith) (omega arith))))
