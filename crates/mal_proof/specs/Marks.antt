use Rattle.std.specs.Prelude.{◌≡◌, ℕ, Bool, List, map, Contains}

-- a number is none of these
abbrev pub IsMissing : List ℕ → ℕ → Type 0
IsMissing ids id = Contains ids id → ⊥

-- marks of numbers by a test
abbrev pub AreMarks : (ℕ → Bool) → List ℕ → List Bool → Type 0
AreMarks test ids marks = marks ≡ map test ids
