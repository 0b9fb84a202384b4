use Rattle.std.specs.Prelude.{ℕ, zero, suc, List, slice_get, Option, None}

-- the element of this number, counted from 1
abbrev pub among : {X : Type 0} → ℕ → List X → Option X
among zero xs = None
among (suc k) xs = slice_get xs k
