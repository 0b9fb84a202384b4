use Rattle.std.proofs.Common.{◌≡◌, ◌+◌, ◌≤◌, length}
use Rattle.spec_dimacs.specs.Rows.{rows_of}
use Rattle.mal_instance.specs.Reading.{ended}
use Rattle.mal_instance.proofs.reading.ended.Given as goal

abbrev pub invariant-loop-row : goal.invariant-loop-row
invariant-loop-row l =
    (ended l.fn.lits.items l.line (rows_of l.rest) ≡ ended l.fn.lits.items l.fn.line (rows_of l.fn.text))
    × (l.line + length l.rest ≤ l.fn.line + length l.fn.text)

abbrev pub decreases-loop-row : goal.decreases-loop-row
decreases-loop-row l = length l.rest
