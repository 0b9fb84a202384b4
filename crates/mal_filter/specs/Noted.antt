-- Clauses that were noted, by their literals.
use Rattle.std.specs.Prelude.{ℕ, Bool, bytes_eq, List}
use Rattle.std.specs.List.{list_any}

-- whether one of the lists is that of these literals
abbrev pub is_noted : List ℕ → List (List ℕ) → Bool
is_noted lits noted = list_any (bytes_eq lits) noted
