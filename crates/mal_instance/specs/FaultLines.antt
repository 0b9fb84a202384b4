-- The lines that tell why a text is no instance.
use Rattle.std.specs.Prelude.{ℕ, List, [], ◌∷◌, codes}
use Rattle.spec_text.specs.Lines.{line_of}
use Rattle.spec_script.specs.FaultLines.{fault_words, part_line}
use Rattle.mal_instance.specs.Reading.{Fault}
use Rattle.mal_instance.specs.Reading.Fault.{NoLine, InFormula, TooMany}

-- the line that tells a fault: `missing` says what no line has, and `limit` which there are too many of
abbrev pub fault_line : List ℕ → List ℕ → Fault → List ℕ
fault_line missing limit NoLine = line_of (codes "fault:" ∷ codes "no" ∷ missing ∷ [])
fault_line missing limit (InFormula n fault) = part_line (codes "formula") n (fault_words fault)
fault_line missing limit (TooMany n) = part_line (codes "formula") n (codes "Limit" ∷ limit ∷ [])
