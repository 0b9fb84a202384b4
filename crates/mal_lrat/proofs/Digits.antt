-- A number at the beginning of a line.
use Rattle.std.proofs.Common.{◌≡◌, ℕ, ◌≤◌, List, ℤ, Some, to_z, of_z, w64, refl}
use Rattle.std.specs.Prelude.{nat_abs}
use Rattle.std.proofs.lemmas.Bool.{le-leb}
use Rattle.std.proofs.lemmas.Int.{to_z-of_z}
use mir.Val.{SFits}
use Rattle.spec_text.specs.Inputs.{words_of}
use Rattle.mal_text.specs.Numbers.{BeginsWith}
use Rattle.spec_lrat.specs.Reading.{greatest_id, numbers_of, before_all}

-- it is the first of the numbers that the line says
pub first-number : (line : List ℕ) (z : ℤ) (words : List (List ℕ)) → BeginsWith line z words → nat_abs z ≤ greatest_id → SFits w64 z → numbers_of (words_of line) ≡ before_all (Some (to_z w64 (of_z w64 z))) (numbers_of words)
first-number line z words (word, e, said) low fits = rw (to_z-of_z w64 z fits, e, said greatest_id, le-leb (nat_abs z) greatest_id low) refl
