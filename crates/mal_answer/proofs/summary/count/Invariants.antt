use Rattle.std.proofs.Common.{◌≡◌, ◌+◌, ◌≤◌, length}
use Rattle.mal_answer.specs.Summaries.{lines_that_are}
use Rattle.mal_answer.proofs.summary.count.Given as goal

abbrev pub invariant-loop-row : goal.invariant-loop-row
invariant-loop-row l = record { rest : l.count + lines_that_are l.line l.rest ≡ lines_that_are l.line l.text; short : l.count + length l.rest ≤ length l.text }

abbrev pub decreases-loop-row : goal.decreases-loop-row
decreases-loop-row l = length l.rest
