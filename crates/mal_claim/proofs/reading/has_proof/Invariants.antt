use Rattle.std.proofs.Common.{◌≡◌, length}
use Rattle.std.specs.List.{list_any}
use Rattle.spec_dimacs.specs.Rows.{rows_of}
use Rattle.mal_claim.specs.Claims.{is_proof_line}
use Rattle.mal_claim.proofs.reading.has_proof.Given as goal

abbrev pub invariant-loop-row : goal.invariant-loop-row
invariant-loop-row l = list_any is_proof_line (rows_of l.rest) ≡ list_any is_proof_line (rows_of l.fn.text)

abbrev pub decreases-loop-row : goal.decreases-loop-row
decreases-loop-row l = length l.rest
