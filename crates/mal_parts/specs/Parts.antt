-- What the parts of a live service did, each with a pass of its own.
use Rattle.std.specs.Prelude.{◌≡◌, List, [], ◌∷◌, Option, Some, None}
use Rattle.mal_turn.specs.declared.view.Numbers.{Numbers}
use Rattle.mal_parts.specs.declared.parts.Seat.{Seat}

-- a pass that lay in a place lies there again, with the same numbers, after this was done with it
abbrev pub IsBack : {P : Type 0} → (P → Type 0) → (P → Numbers) → (P → P → Type 0) → Option P → Option P → Type 0
IsBack is_of numbers done (Some p) (Some q) = is_of q × (numbers q ≡ numbers p) × done p q
IsBack is_of numbers done (Some p) None = ⊥
IsBack is_of numbers done None now = ⊥

-- and so do the passes of a row of workers
abbrev pub AreBack : {P : Type 0} → (P → Type 0) → (P → Numbers) → (P → P → Type 0) → List (Seat P) → List (Seat P) → Type 0
AreBack is_of numbers done [] [] = Unit {0}
AreBack is_of numbers done (s ∷ ss) (t ∷ ts) = (t.worker ≡ s.worker) × IsBack is_of numbers done s.pass t.pass × AreBack is_of numbers done ss ts
AreBack is_of numbers done (s ∷ ss) [] = ⊥
AreBack is_of numbers done [] (t ∷ ts) = ⊥
