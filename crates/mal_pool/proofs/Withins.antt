-- Items that stand among others.
use Rattle.std.proofs.Common.{List, [], ◌∷◌, ◌++◌, inl, inr, refl}
use Rattle.mal_pool.specs.Within.{IsWithin}

pub within-same : {T : Type 0} (xs : List T) → IsWithin xs xs
within-same [] = tt
within-same (x ∷ xs) = inl (refl, within-same xs)

pub within-back : {T : Type 0} (ys xs zs : List T) → IsWithin xs zs → IsWithin xs (ys ++ zs)
within-back [] xs zs h = h
within-back (y ∷ ys) [] zs h = tt
within-back (y ∷ ys) (x ∷ xs) zs h = inr (within-back ys (x ∷ xs) zs h)
