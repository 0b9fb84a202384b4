use Rattle.std.proofs.Common.{◌≡◌, ℕ, ◌+◌, ◌-◌, ◌*◌, ◌/◌, ◌%◌, ◌<◌, Bool, true, false, cond, refl, ap, ◌∙◌, ◌^◌, arith}
use Rattle.std.specs.Prelude.{nat_eq}
use Rattle.std.specs.Int.Bits.{bit_xor, xor_block}
use Rattle.std.proofs.lemmas.Nat.{xor_comm}
use Rattle.std.proofs.lemmas.Bool.Decides.{nat_tests}
use Rattle.mal_base.specs.Literals.{negated}

low-bit : (a r : ℕ) → r < 2 → bit_xor (a * 2 + r) 1 ≡ a * 2 + bit_xor r 1
low-bit a r l =
    let small : r < 2 ^ 1 = omega (arith, l) in
    let one : 1 < 2 ^ 1 = omega arith in
    xor_block 1 a 0 r 1 small one ∙ ap (λ (x : ℕ). x * 2 + bit_xor r 1) (xor_comm a 0)

-- a number whose last bit is turned: the literal of the same variable with the other sign, the other watch of a pair
pub flipped : (n : ℕ) → bit_xor n 1 ≡ negated n
flipped n = by_bit (nat_eq (n % 2) 0) refl
  where
    even : nat_eq (n % 2) 0 ≡ true → n % 2 ≡ 0
    even = grind (arith, nat_tests)

    odd : nat_eq (n % 2) 0 ≡ false → n % 2 ≡ 1
    odd = grind (arith, nat_tests)

    by_bit : (b : Bool) → nat_eq (n % 2) 0 ≡ b → bit_xor n 1 ≡ cond b (n + 1) (n - 1)
    by_bit true q =
        let z : n % 2 ≡ 0 = even q in
        let whole : n ≡ n / 2 * 2 + 0 = omega (arith, z) in
        let up : bit_xor n 1 ≡ n / 2 * 2 + 1 = ap (λ (x : ℕ). bit_xor x 1) whole ∙ low-bit (n / 2) 0 (omega arith) in
        omega (arith, up, z)
    by_bit false q =
        let z : n % 2 ≡ 1 = odd q in
        let whole : n ≡ n / 2 * 2 + 1 = omega (arith, z) in
        let down : bit_xor n 1 ≡ n / 2 * 2 + 0 = ap (λ (x : ℕ). bit_xor x 1) whole ∙ low-bit (n / 2) 1 (omega arith) in
        omega (arith, down, z)
