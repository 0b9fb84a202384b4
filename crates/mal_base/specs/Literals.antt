use Rattle.mal_base.specs.Limits.{greatest_variable}
use Rattle.std.specs.Prelude.{ℕ, ℤ, pos, neg_ℤ, ◌+◌, ◌-◌, ◌*◌, ◌/◌, ◌%◌, ◌<◌, ◌≤◌, Bool, ◌==◌, if◌then◌else◌}

-- a literal is written by its code: twice its variable, and one more where it is negative
abbrev pub var_of : ℕ → ℕ
var_of code = code / 2

-- the code of the literal of a variable with a sign
abbrev pub literal : ℕ → Bool → ℕ
literal var positive = if positive then 2 * var else 2 * var + 1

-- whether a literal is positive
abbrev pub has_plus : ℕ → Bool
has_plus code = code % 2 == 0

-- the literal of the same variable with the other sign
abbrev pub negated : ℕ → ℕ
negated code = if code % 2 == 0 then code + 1 else code - 1

-- the number that DIMACS CNF writes a literal as: its variable, below 0 where it is negative
abbrev pub dimacs_of : ℕ → ℤ
dimacs_of code = if code % 2 == 0 then pos (code / 2) else neg_ℤ (pos (code / 2))

-- a code is that of a literal of a variable from 1 to the greatest
abbrev pub IsLiteral : ℕ → Type 0
IsLiteral code = (2 ≤ code) × (code < 2 * greatest_variable + 2)
