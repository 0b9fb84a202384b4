-- The lines that a goal needs, by rising number, and their new numbers.
use Rattle.std.specs.Prelude.{ℕ, ◌+◌, ◌<◌, Bool, ◌||◌, ◌==◌, nat_lt, List, [], ◌∷◌, map, All, if◌then◌else◌}
use Rattle.std.specs.List.{list_any}
use Rattle.mal_base.specs.NumberedClause.{Line}
use Rattle.spec_proof.specs.Log.{IsAbove}

-- a line put in its place among lines by rising number
abbrev pub put : Line → List Line → List Line
put line [] = line ∷ []
put line (x ∷ xs) = if nat_lt line.id x.id then line ∷ x ∷ xs else x ∷ put line xs

abbrev pub by_id : List Line → List Line
by_id [] = []
by_id (line ∷ lines) = put line (by_id lines)

-- the numbers of the lines rise
abbrev pub AreRising : List Line → Type 0
AreRising [] = Unit {0}
AreRising (line ∷ lines) = All (λ later. line.id < later.id) lines × AreRising lines

-- lines as they are trimmed: by rising number, each with the number of a derived clause above its hints
pub record IsTrimmed (lines : List Line) : Type 0 where
  pub rising : AreRising lines
  pub above : All IsAbove lines

-- a number is needed where it is the goal or a hint of one of the lines
abbrev pub is_needed : ℕ → List Line → ℕ → Bool
is_needed goal lines id = (goal == id) || list_any (λ line. list_any (λ hint. hint == id) line.hints) lines

abbrev pub with_needed : ℕ → Line → List Line → List Line
with_needed goal line later = if is_needed goal later line.id then line ∷ later else later

-- of lines by rising number those that are reached backwards from a goal over hints
abbrev pub reached_in : ℕ → List Line → List Line
reached_in goal [] = []
reached_in goal (line ∷ lines) = with_needed goal line (reached_in goal lines)

-- the lines of a log that are reached backwards from a goal over hints, by rising number
abbrev pub reached : ℕ → List Line → List Line
reached goal lines = reached_in goal (by_id lines)

abbrev pub ids_of : List Line → List ℕ
ids_of lines = map (λ line. line.id) lines

-- the new number of what had one of these numbers: they become m + 1, m + 2, .. in their order; any other number stays
abbrev pub new_id : ℕ → List ℕ → ℕ → ℕ
new_id m [] id = id
new_id m (i ∷ ids) id = if i == id then m + 1 else new_id (m + 1) ids id

-- a line with its number and its hints renamed
abbrev pub renamed : (ℕ → ℕ) → Line → Line
renamed name line = record { id = name line.id; lits = line.lits; hints = map name line.hints }

-- the lines numbered from m + 1 on, and their hints with them
abbrev pub renumbered : ℕ → List Line → List Line
renumbered m lines = map (renamed (new_id m (ids_of lines))) lines

-- the numbers m + 1, m + 2, .., one for each line
abbrev pub counted : ℕ → List Line → List ℕ
counted m [] = []
counted m (line ∷ lines) = (m + 1) ∷ counted (m + 1) lines
