use Rattle.std.proofs.Common.{◌≡◌, ℕ, zero, suc, ◌+◌, ◌-◌, ◌*◌, ◌/◌, ◌^◌, ◌<◌, ◌≤◌, refl, sym, ap, ◌∙◌, arith}
use Rattle.spec_seq.specs.Luby.{luby, luby_below}
use Rattle.spec_seq.proofs.LubyLemmas.{double, power-some, luby-below, found, lower, upper}

-- what the rounds that are left give, from the place that is left
pub record IsLeft (k rest size place : ℕ) : Type 0 where
  pub value : luby_below k rest ≡ luby place
  pub small : rest < 2 ^ k
  pub half : 0 < k → size ≡ 2 ^ (k - 1)

pub left-begins : (place : ℕ) → place < 2 ^ 64 → IsLeft 64 place 9223372036854775808 place
left-begins place l = record { value = sym (luby-below 64 place (omega arith) l); small = l; half = λ h. refl }

halved : (k size : ℕ) → size ≡ 2 ^ k → 0 < k → size / 2 ≡ 2 ^ (k - 1)
halved zero size e h = absurd (omega arith)
halved (suc k) size e h =
    let less : suc k - 1 ≡ k = omega arith in
    let twice : 2 ^ suc k ≡ 2 * 2 ^ k = double k in
    rw less (omega (arith, e, twice))

pub size-is : (k rest size place : ℕ) → IsLeft (suc k) rest size place → size ≡ 2 ^ k
size-is k rest size place h = let less : suc k - 1 ≡ k = omega arith in rw less at (h.half (omega arith))

pub size-some : (k rest size place : ℕ) → IsLeft (suc k) rest size place → 1 ≤ size
size-some k rest size place h = rw (size-is k rest size place h) (power-some k)

pub left-lower : (k rest size place : ℕ) → IsLeft (suc k) rest size place → (rest ≡ size - 1 + size → ⊥) → rest < size → IsLeft k rest (size / 2) place
left-lower k rest size place h e l =
    let is : size ≡ 2 ^ k = size-is k rest size place h in
    let some : 1 ≤ size = size-some k rest size place h in
    let other : (rest + 1 ≡ 2 * size → ⊥) = λ q. e (omega arith) in
    record {
      value = sym (lower k rest (rw is at other) (rw is at l)) ∙ h.value;
      small = rw is at l;
      half = λ p. halved k size is p;
    }

pub left-upper : (k rest size place : ℕ) → IsLeft (suc k) rest size place → (rest ≡ size - 1 + size → ⊥) → size ≤ rest → IsLeft k (rest - (size - 1)) (size / 2) place
left-upper k rest size place h e l =
    let is : size ≡ 2 ^ k = size-is k rest size place h in
    let some : 1 ≤ size = size-some k rest size place h in
    let twice : 2 ^ suc k ≡ 2 * 2 ^ k = double k in
    let other : (rest + 1 ≡ 2 * size → ⊥) = λ q. e (omega arith) in
    let same : rest - (size - 1) ≡ rest + 1 - 2 ^ k = omega (arith, is) in
    record {
      value = ap (luby_below k) same ∙ (sym (upper k rest (rw is at other) (rw is at l)) ∙ h.value);
      small = let s : rest < 2 ^ suc k = h.small in let n : (rest + 1 ≡ 2 * 2 ^ k → ⊥) = rw is at other in omega (arith, is, twice);
      half = λ p. halved k size is p;
    }
