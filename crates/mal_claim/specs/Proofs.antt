-- The text of a proof, line by line, and what a checker says of its lines.
use Rattle.std.specs.Prelude.{ℕ, suc, Bool, true, false, List, [], ◌∷◌, ◌++◌, map, if◌then◌else◌, Option, Some, None, Result, Ok, Err}
use Rattle.std.specs.List.{list_any}
use Rattle.spec_logic.specs.Derivation.{Holding}
use Rattle.spec_logic.specs.Refutation.{ProofLine, Refusal, numbered, after_line, added_by, refusal, contradicts}
use Rattle.spec_logic.specs.Refutation.ProofLine.{Add, Delete}
use Rattle.spec_dimacs.specs.Rows.{is_passed}
use Rattle.spec_dimacs.specs.Reading.{◌>>=◌}
use Rattle.spec_lrat.specs.Reading.{Fault, reading}

-- a line of a proof with the number of its line in the text
pub record Numbered : Type 0 where
  pub number : ℕ
  pub line : ProofLine

-- the last id that was added
abbrev pub last_after : ℕ → ProofLine → ℕ
last_after last (Add id clause hints) = id
last_after last (Delete ids) = last

-- the last id after a row, and the line that it spells, if it spells one
pub record Read : Type 0 where
  pub last : ℕ
  pub lines : List Numbered

-- the row of line `number` that is read so
abbrev pub with_number : ℕ → ℕ → Result ProofLine Fault → Result Read (ℕ × Fault)
with_number number last (Ok line) = Ok (record { last = last_after last line; lines = record { number = number; line = line } ∷ [] })
with_number number last (Err fault) = Err (number, fault)

abbrev pub row_at : ℕ → ℕ → List (List ℕ) → Result Read (ℕ × Fault)
row_at number last row = if is_passed row then Ok (record { last = last; lines = [] }) else with_number number last (reading last row)

-- the line of this number that a row spells, if it spells one, and the last id after it
abbrev pub line_at : ℕ → Option ProofLine → List Numbered
line_at number None = []
line_at number (Some line) = record { number = number; line = line } ∷ []

abbrev pub last_of : ℕ → Option ProofLine → ℕ
last_of last None = last
last_of last (Some line) = last_after last line

abbrev pub read_of : ℕ → ℕ → Option ProofLine → Read
read_of number last line = record { last = last_of last line; lines = line_at number line }

-- the lines of a proof's rows, of which the first is line `number` of the text, or the first fault with its line
abbrev pub lines_from : ℕ → ℕ → List (List (List ℕ)) → Result (List Numbered) (ℕ × Fault)
lines_from number last [] = Ok []
lines_from number last (row ∷ rows) = row_at number last row >>= λ read. lines_from (suc number) read.last rows >>= λ others. Ok (read.lines ++ others)

-- whether rows are those of a proof, or their first fault
abbrev pub first_fault : {A : Type 0} → Result A (ℕ × Fault) → Result (Unit {0}) (ℕ × Fault)
first_fault read = read >>= λ lines. Ok tt

-- the first refused line with its refusal
abbrev pub first_of : Option Refusal → ℕ → Option (ℕ × Refusal) → Option (ℕ × Refusal)
first_of (Some refusal) number others = Some (number, refusal)
first_of None number others = others

abbrev pub first_refused : Holding → List Numbered → Option (ℕ × Refusal)
first_refused held [] = None
first_refused held (l ∷ ls) = first_of (refusal held l.line) l.number (first_refused (after_line held l.line) ls)

-- the lines without their numbers
abbrev pub bare : List Numbered → List ProofLine
bare lines = map (λ l. l.line) lines

-- what is said of a proof: it is verified, a line is refused, or its lines do not reach the goal
pub data Verdict : Type 0 where
  Verified : Verdict
  Refused : (line : ℕ) → (refusal : Refusal) → Verdict
  NoGoal : Verdict

abbrev pub judged : Option (ℕ × Refusal) → Bool → Verdict
judged (Some (number, refusal)) goal = Refused number refusal
judged None true = Verified
judged None false = NoGoal

abbrev pub verdict_of : List (Option (List ℕ)) → List ℕ → List Numbered → Verdict
verdict_of clauses assumptions lines = judged (first_refused (numbered clauses) lines) (list_any (contradicts assumptions) (added_by (bare lines)))

-- the verdict on the lines that are left, of a checker that holds so much, and has added so much
abbrev pub verdict_from : Holding → List (Option (List ℕ)) → List ℕ → List Numbered → Verdict
verdict_from held added assumptions lines = judged (first_refused held lines) (list_any (contradicts assumptions) (added ++ added_by (bare lines)))
