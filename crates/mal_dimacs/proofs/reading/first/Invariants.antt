use Rattle.std.proofs.Common.{◌≡◌, ◌+◌, ◌≤◌, length, map}
use Rattle.spec_text.specs.Inputs.{lines_of, words_of}
use Rattle.spec_dimacs.specs.Reading.{read_rows, read_text}
use Rattle.mal_dimacs.proofs.reading.first.Given as goal

abbrev pub invariant-loop-row : goal.invariant-loop-row
invariant-loop-row l = record { rest : read_rows (map words_of (lines_of l.rest)) l.line l.reader ≡ read_text l.text; short : l.line + length l.rest ≤ length l.text }

abbrev pub decreases-loop-row : goal.decreases-loop-row
decreases-loop-row l = length l.rest
