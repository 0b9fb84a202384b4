-- The lines of a slice, by their text.
use Rattle.std.specs.Prelude.{◌≡◌, ℕ, Bool, true, false, List, [], ◌∷◌, ◌++◌, Option, Some, None, option_map, option_and_then, Result, Ok, Err}
use Rattle.mal_base.specs.NumberedClause.{Line}
use Rattle.spec_text.specs.Inputs.{lines_of, words_of}
use Rattle.spec_logic.specs.Refutation.{ProofLine}
use Rattle.spec_logic.specs.Refutation.ProofLine.{Add, Delete}
use Rattle.spec_lrat.specs.Reading.{Fault, reading}
use Rattle.mal_parcel.specs.Taking.{told_at}

-- the line of a slice that a line of a proof is, which adds a clause
abbrev pub line_read : Result ProofLine Fault → Option Line
line_read (Ok (Add id (Some lits) hints)) = Some (record { id = id; lits = lits; hints = hints })
line_read (Ok (Add id None hints)) = None
line_read (Ok (Delete ids)) = None
line_read (Err fault) = None

-- the line that a text without line end spells
abbrev pub line_in : List ℕ → Option Line
line_in text = line_read (reading 0 (words_of text))

-- the lines that these spell
abbrev pub lines_said : List (List ℕ) → Option (List Line)
lines_said [] = Some []
lines_said (text ∷ texts) = option_and_then (λ l. option_map (λ ls. l ∷ ls) (lines_said texts)) (line_in text)

abbrev pub lines_in : List ℕ → Option (List Line)
lines_in text = lines_said (lines_of text)

-- the slice at the front: its lines and whether it ends a revision, and what is after it
abbrev pub slice_at : List ℕ → Option (List Line × (Bool × List ℕ))
slice_at bytes = option_and_then (λ t. option_map (λ ls. (ls, (t.0, t.1.1))) (lines_in t.1.0)) (told_at bytes)

-- a line was put after the others, where there was one
abbrev pub IsPut : Option Line → Bool → List Line → List Line → Type 0
IsPut None put before after = (put ≡ false) × (after ≡ before)
IsPut (Some line) put before after = (put ≡ true) × (after ≡ before ++ line ∷ [])
