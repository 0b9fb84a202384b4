use Rattle.std.proofs.Common.{◌≡◌}
use Rattle.mal_job.specs.Exports.{marked}
use Rattle.mal_job.proofs.exchange.move_marks.Given as goal

abbrev pub invariant-loop-index : goal.invariant-loop-index
invariant-loop-index l = l.places.items ≡ marked l.index l.mark l.fn.places.items
