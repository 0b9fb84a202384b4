use Rattle.std.proofs.Common.{◌≡◌, ◌+◌, ◌≤◌, length}
use Rattle.spec_dimacs.specs.Rows.{rows_of}
use Rattle.spec_script.specs.Reading.{read_rows}
use Rattle.mal_script.proofs.reading.take_rows.Given as goal

abbrev pub invariant-loop-row : goal.invariant-loop-row
invariant-loop-row l =
    (read_rows l.limits (rows_of l.rest) l.line l.reader ≡ read_rows l.limits (rows_of l.text) 0 l.fn.reader)
    × (l.line + length l.rest ≤ length l.text)

abbrev pub decreases-loop-row : goal.decreases-loop-row
decreases-loop-row l = length l.rest
