use Rattle.std.proofs.Common.{◌≡◌, ◌≤◌, ◌+◌, length}
use Rattle.spec_dimacs.specs.Rows.{rows_of}
use Rattle.mal_check.specs.Checked.{held}
use Rattle.mal_claim.specs.Claims.{verdict_after}
use Rattle.mal_claim.specs.Proofs.{lines_from}
use Rattle.mal_claim.proofs.checking.check_rows.Given as goal

abbrev pub invariant-loop-row : goal.invariant-loop-row
invariant-loop-row l =
    (verdict_after (held l.checker) l.checker.added l.fn.assumptions (lines_from l.number l.last (rows_of l.rest)) ≡ verdict_after (held l.fn.checker) l.fn.checker.added l.fn.assumptions (lines_from 1 l.fn.last (rows_of l.fn.text)))
    × (l.number + length l.rest ≤ 1 + length l.fn.text)

abbrev pub decreases-loop-row : goal.decreases-loop-row
decreases-loop-row l = length l.rest
