-- Passes that lie in seats.
use Rattle.std.specs.Prelude.{List, [], ◌∷◌, IsSomeAnd}
use Rattle.mal_parts.specs.declared.parts.Seat.{Seat}
use Rattle.mal_turn.specs.declared.view.Numbers.{Numbers}

-- this holds of the passes in seats with these numbers, each pass with its own
abbrev pub AreSeated : {P : Type 0} → (Numbers → P → Type 0) → List (Seat P) → List Numbers → Type 0
AreSeated holds [] [] = Unit {0}
AreSeated holds [] (n ∷ ns) = ⊥
AreSeated holds (s ∷ ss) [] = ⊥
AreSeated holds (s ∷ ss) (n ∷ ns) = IsSomeAnd s.pass (holds n) × AreSeated holds ss ns
