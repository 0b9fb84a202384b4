use Rattle.std.specs.Prelude.{ℕ, ◌≤◌, List, length, map, slice_range, All}
use Rattle.mal_base.specs.NumberedClause.{Line}
use Rattle.mal_base.specs.declared.line_head.Span.{Span}
use Rattle.mal_base.specs.declared.line_head.LineHead.{LineHead}

-- a list of lines, and for how many more lines, literals and hints there is room
pub record Lined : Type 0 where
  pub lines : List Line
  pub room : ℕ
  pub lit_room : ℕ
  pub hint_room : ℕ

-- the line whose literals and hints stand at these places of the lists of all literals and of all hints
abbrev pub line_at : List ℕ → List ℕ → LineHead → Line
line_at lits hints head = record { id = head.id; lits = slice_range lits head.lits.start head.lits.end; hints = slice_range hints head.hints.start head.hints.end }

abbrev pub lines_at : List ℕ → List ℕ → List LineHead → List Line
lines_at lits hints heads = map (line_at lits hints) heads

-- places of a list of this length
pub record IsSpanOf (long : ℕ) (span : Span) : Type 0 where
  pub forward : span.start ≤ span.end
  pub within : span.end ≤ long

-- a line's literals and hints stand in those lists
pub record IsWithin (lits hints : List ℕ) (head : LineHead) : Type 0 where
  pub lits_within : IsSpanOf (length lits) head.lits
  pub hints_within : IsSpanOf (length hints) head.hints

abbrev pub AreWithin : List ℕ → List ℕ → List LineHead → Type 0
AreWithin lits hints heads = All (IsWithin lits hints) heads
