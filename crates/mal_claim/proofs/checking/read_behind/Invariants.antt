use Rattle.std.proofs.Common.{◌≡◌, ◌≤◌, ◌+◌, length}
use Rattle.spec_dimacs.specs.Rows.{rows_of}
use Rattle.mal_claim.specs.Proofs.{first_fault, lines_from}
use Rattle.mal_claim.proofs.checking.read_behind.Given as goal

abbrev pub invariant-loop-row : goal.invariant-loop-row
invariant-loop-row l =
    (first_fault (lines_from l.number l.last (rows_of l.rest)) ≡ first_fault (lines_from l.fn.number l.fn.last (rows_of l.fn.text)))
    × (l.number + length l.rest ≤ l.fn.number + length l.fn.text)

abbrev pub decreases-loop-row : goal.decreases-loop-row
decreases-loop-row l = length l.rest
