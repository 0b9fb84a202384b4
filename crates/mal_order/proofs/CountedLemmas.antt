use Rattle.std.proofs.Common.{◌≡◌, ℕ, zero, suc, ◌+◌, ◌-◌, ◌*◌, ◌/◌, ◌<◌, ◌≤◌, List, [], ◌∷◌, ◌++◌, length, take, drop, refl, ap, append_assoc, arith}
use Rattle.spec_node.specs.Load.{counted, new_order}
use Rattle.mal_order.specs.Rings.{IsApart}

-- one number more, and the numbers after it
pub counted_next : (items : List ℕ) (a n p : ℕ) → p < n → (items ++ (a + p) ∷ []) ++ counted (a + (p + 1)) (n - (p + 1)) ≡ items ++ counted (a + p) (n - p)
counted_next items a n p h =
    let k : n - p ≡ suc (n - (p + 1)) = omega arith in
    let e : a + (p + 1) ≡ a + p + 1 = omega arith in
    rw (append_assoc, k, e) refl

pub turn-le : (i n : ℕ) → i ≤ 63 → i * n / 64 ≤ n
turn-le i n h = grind arith

pub drop-counted : (k n a : ℕ) → k ≤ n → drop k (counted a n) ≡ counted (a + k) (n - k)
drop-counted zero n a h =
    let e : a + 0 ≡ a = omega arith in
    let f : n - 0 ≡ n = omega arith in
    rw (e, f) refl
drop-counted (suc k) zero a h = absurd (omega arith)
drop-counted (suc k) (suc n) a h =
    let e : a + suc k ≡ a + 1 + k = omega arith in
    let f : suc n - suc k ≡ n - k = omega arith in
    rw (e, f) (drop-counted k n (a + 1) (omega arith))

pub take-counted : (k n a : ℕ) → k ≤ n → take k (counted a n) ≡ counted a k
take-counted zero n a h = refl
take-counted (suc k) zero a h = absurd (omega arith)
take-counted (suc k) (suc n) a h = ap (λ (xs : List ℕ). a ∷ xs) (take-counted k n (a + 1) (omega arith))

-- new variables of the decision order in two runs of rising numbers
pub new_order-runs : (index variables n : ℕ) → index ≤ 63 → new_order index variables n ≡ counted (variables + 1 + index * n / 64) (n - index * n / 64) ++ counted (variables + 1) (index * n / 64)
new_order-runs index variables n h =
    let t : index * n / 64 ≤ n = turn-le index n h in
    rw (drop-counted (index * n / 64) n (variables + 1) t, take-counted (index * n / 64) n (variables + 1) t) refl

pub length-counted : (n first : ℕ) → length (counted first n) ≡ n
length-counted zero first = refl
length-counted (suc n) first = omega (arith, length-counted n (first + 1))

-- a number below those counted is none of them
pub apart-counted : (k n first : ℕ) → k < first → IsApart k (counted first n)
apart-counted k zero first l = tt
apart-counted k (suc n) first l = ((λ q. omega (arith, q, l)), apart-counted k n (first + 1) (omega (arith, l)))
