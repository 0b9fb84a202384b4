-- The numbers that C passes and gets: literals, answers, causes and lines.
use Rattle.std.specs.Prelude.{ℕ, zero, suc, ◌-◌, ◌^◌, min, ℤ, pos, neg_ℤ, int_lt, nat_abs, nat_le, Bool, true, false, ◌&&◌, List, [], ◌∷◌, ◌++◌, map, slice_get, Option, Some, None, if◌then◌else◌}
use Rattle.mal_base.specs.Limits.{greatest_variable}
use Rattle.mal_base.specs.Literals.{literal, dimacs_of}
use Rattle.mal_base.specs.NumberedClause.{Line}
use Rattle.spec_solving.specs.declared.refusal.Refusal.{Refusal}
use Rattle.spec_solving.specs.declared.refusal.Refusal.TheVariants.{NoLiteral, OpenClause, Limit, OutOfMemory}
use Rattle.spec_solving.specs.Solving.{Answer, Solving}
use Rattle.spec_solving.specs.Solving.Answer.{Open, Unknown, Model, Core}
use Rattle.mal_solving.specs.Answers.{value_in, failed_in, lines_of}

-- the literal of a number, as DIMACS CNF writes literals: none of 0, and none of what is too great
abbrev pub literal_of : ℤ → Option ℕ
literal_of number =
    if nat_le 1 (nat_abs number) && nat_le (nat_abs number) greatest_variable
    then Some (literal (nat_abs number) (int_lt (pos 0) number))
    else None

-- a number under a value: itself where its literal is true, the negation's where it is false, 0 where it has no value
abbrev pub signed_by : ℤ → Option Bool → ℤ
signed_by number None = pos 0
signed_by number (Some true) = number
signed_by number (Some false) = neg_ℤ number

-- the value of a literal by its number
abbrev pub value_of : ℤ → Answer → ℤ
value_of number answer = of_literal (literal_of number)
  where
    of_literal : Option ℕ → ℤ
    of_literal None = pos 0
    of_literal (Some lit) = signed_by number (value_in lit answer)

-- whether the literal of a number failed
abbrev pub failed_of : ℤ → Answer → Bool
failed_of number answer = of_literal (literal_of number)
  where
    of_literal : Option ℕ → Bool
    of_literal None = false
    of_literal (Some lit) = failed_in lit answer

-- how far a solver is: 10 for a model, 20 for failed assumptions, 0 while there is neither, -1 where an input was refused
abbrev pub status_in : Option Refusal → Answer → ℤ
status_in None Open = pos 0
status_in None Unknown = pos 0
status_in None (Model values) = pos 10
status_in None (Core failed lines) = pos 20
status_in (Some cause) answer = neg_ℤ (pos 1)

abbrev pub status_of : Solving → ℤ
status_of s = status_in s.refused s.answer

-- why an input was refused, 0 where none was
abbrev pub number_of_cause : Option Refusal → ℕ
number_of_cause None = 0
number_of_cause (Some NoLiteral) = 1
number_of_cause (Some OpenClause) = 2
number_of_cause (Some Limit) = 3
number_of_cause (Some OutOfMemory) = 4

-- a clause's number as a signed one, which holds all but those from 2^63 on
abbrev pub number_of_clause : ℕ → ℤ
number_of_clause id = pos (min id (2 ^ 63 - 1))

-- a line as LRAT writes it: its number, its literals, 0, its hints, 0
abbrev pub numbers_of : Line → List ℤ
numbers_of line = number_of_clause line.id ∷ (map dimacs_of line.lits ++ pos 0 ∷ (map number_of_clause line.hints ++ pos 0 ∷ []))

-- a line of the refutation, the lines counted from 0, if there is a solver that has so many
abbrev pub line_of : ℕ → Option Solving → Option Line
line_of n None = None
line_of n (Some s) = slice_get (lines_of s.answer) n

-- numbers laid over those from a place on, as far as there are any
abbrev pub laid : ℕ → List ℤ → List ℤ → List ℤ
laid at numbers [] = []
laid zero [] (old ∷ olds) = old ∷ olds
laid zero (number ∷ numbers) (old ∷ olds) = number ∷ laid zero numbers olds
laid (suc at) numbers (old ∷ olds) = old ∷ laid at numbers olds
