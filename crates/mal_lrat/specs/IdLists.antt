-- The numbers at the end of a line, as they are read in one go.
use Rattle.std.specs.Prelude.{ℕ, Bool, ◌||◌, List, ◌++◌, ℤ, nat_le, if◌then◌else◌, Option, Some, None, Result, Ok, Err}
use Rattle.std.specs.List.{list_any}
use Rattle.std.specs.Option.{option_map}
use Rattle.mal_base.specs.Limits.{limits}
use Rattle.spec_text.specs.Numbers.{number_in}
use Rattle.spec_logic.specs.Refutation.{ProofLine}
use Rattle.spec_logic.specs.Refutation.ProofLine.{Add}
use Rattle.spec_dimacs.specs.Merged.{clause_of}
use Rattle.spec_lrat.specs.Reading.{Fault, is_end, is_negative, are_closed, ids_of, numbers_of, literal_said}
use Rattle.spec_lrat.specs.Reading.Fault.{MissingZero, IdNotRising, NegativeHint}
use Rattle.mal_lrat.specs.declared.reading.IdList.{IdList}

-- the ids before the first 0, whether a number is negative, and whether the last one is 0 and no other
pub record Listed : Type 0 where
  pub ids : List ℕ
  pub negative : Bool
  pub closed : Bool

abbrev pub listed : List ℤ → Listed
listed zs = record { ids = ids_of zs; negative = list_any is_negative zs; closed = are_closed zs }

-- a list without where it lies in memory
abbrev pub listing : IdList → Listed
listing l = record { ids = l.ids.items; negative = l.has_negative; closed = l.is_closed }

-- what words say, none where one says no number
abbrev pub list_said : List (List ℕ) → Option Listed
list_said words = option_map listed (numbers_of words)

-- a list with what was read before in front of it
abbrev pub continued : List ℕ → Bool → Option Listed → Option Listed
continued ids negative None = None
continued ids negative (Some l) = Some (record { ids = ids ++ l.ids; negative = negative || l.negative; closed = l.closed })

-- a number was negative before, or one of these is
abbrev pub negative_behind : Bool → List ℤ → Bool
negative_behind before zs = before || list_any is_negative zs

-- a line that adds, of its literals and of the list of its hints
abbrev pub adding_listed : ℕ → ℕ → List ℕ → Listed → Result ProofLine Fault
adding_listed last id lits hints =
    if hints.closed then
    (if nat_le id last then Err (IdNotRising last id) else
    if hints.negative then Err NegativeHint else
    Ok (Add id (clause_of lits) hints.ids))
    else Err MissingZero

-- what a word says where a literal or the 0 after the literals is wanted
abbrev pub literal_or_end : List ℕ → Option (Option ℕ)
literal_or_end word = if is_end word then Some None else option_map Some (literal_said (number_in word limits.variables))
