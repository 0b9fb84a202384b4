-- What the numbers of a description have to be.
use Rattle.std.specs.Prelude.{ℕ, ◌||◌, ◌==◌, Bool, ℤ, pos, nat_abs, nat_lt, List, map, codes, Option}
use Rattle.std.specs.List.{list_any}
use Rattle.mal_base.specs.Asks.{Terms, Weighed, ask_of_numbers, weight_of}
use Rattle.spec_text.specs.Asks.{first_profile}
use Rattle.serde_json.specs.Data.{Data}
use Rattle.spec_json.specs.Shape.{at, items_in, numbers_in, whole_in, whole_or}

-- of a step the priority and the demand; none where one is out of its range
abbrev pub weight_in : Data → Option Weighed
weight_in d = weight_of (whole_in (at (codes "priority") d)) (whole_in (at (codes "demand") d))

-- the number of the profile that a job names: that of the first where it names none
abbrev pub profile_in : Data → ℤ
profile_in d = whole_or (pos first_profile) (at (codes "profile") d)

-- what a job asks for; none where a number is out of its range
abbrev pub ask_in : Data → Option Terms
ask_in d = ask_of_numbers (whole_in (at (codes "priority") d)) (whole_in (at (codes "demand") d)) (whole_in (at (codes "slices") d)) (profile_in d)

-- of a revision the variables, the numbers of each clause and those of the assumptions
abbrev pub variables_in : Data → ℤ
variables_in d = whole_in (at (codes "variables") d)

abbrev pub clauses_in : Data → List (List ℤ)
clauses_in d = map numbers_in (items_in (at (codes "clauses") d))

abbrev pub assumptions_in : Data → List ℤ
assumptions_in d = numbers_in (at (codes "assumptions") d)

-- a number stands for no literal
abbrev pub is_none : ℤ → Bool
is_none z = nat_abs z == 0

-- a number stands for a literal of a variable above this one
abbrev pub is_above : ℕ → ℤ → Bool
is_above variables z = nat_lt variables (nat_abs z)

-- some number of the clauses or of the assumptions is so
abbrev pub has_number : (ℤ → Bool) → List (List ℤ) → List ℤ → Bool
has_number test clauses assumptions = list_any (list_any test) clauses || list_any test assumptions
