use Rattle.std.proofs.Common.{length}
use Rattle.mal_account.proofs.Parts.{Passed}
use Rattle.mal_account.proofs.reading.cut.Given as goal

abbrev pub invariant-loop-row : goal.invariant-loop-row
invariant-loop-row l = Passed l.text l.rest l.start

abbrev pub decreases-loop-row : goal.decreases-loop-row
decreases-loop-row l = length l.rest
