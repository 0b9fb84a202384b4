use Rattle.std.proofs.Common.{◌≡◌, ◌+◌, ◌≤◌, length}
use Rattle.spec_dimacs.specs.Rows.{rows_of}
use Rattle.mal_claim.specs.Claims.{to_proof}
use Rattle.mal_claim.proofs.reading.to_proof.Given as goal

abbrev pub invariant-loop-row : goal.invariant-loop-row
invariant-loop-row l =
    (to_proof l.fn.lits.items l.line (rows_of l.rest) ≡ to_proof l.fn.lits.items l.fn.line (rows_of l.fn.text))
    × (l.line + length l.rest ≤ l.fn.line + length l.fn.text)
    × (length l.rest ≤ length l.fn.text)

abbrev pub decreases-loop-row : goal.decreases-loop-row
decreases-loop-row l = length l.rest
