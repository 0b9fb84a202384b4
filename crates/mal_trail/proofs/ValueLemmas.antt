use Rattle.std.proofs.Common.{◌≡◌, ℕ, suc, ◌+◌, ◌-◌, ◌<◌, Bool, List, [], ◌∷◌, ◌++◌, map, refl, arith, append_assoc}
use Rattle.spec_node.specs.Load.{counted}

-- one value more, and those of the variables after it
pub values_next : (f : ℕ → Bool) (items : List Bool) (n p : ℕ) → p < n → (items ++ f (p + 1) ∷ []) ++ map f (counted (1 + (p + 1)) (n - (p + 1))) ≡ items ++ map f (counted (1 + p) (n - p))
values_next f items n p h =
    let k : n - p ≡ suc (n - (p + 1)) = omega arith in
    let e : 1 + (p + 1) ≡ 1 + p + 1 = omega arith in
    let g : p + 1 ≡ 1 + p = omega arith in
    rw (append_assoc, k, e, g) refl
