use Rattle.std.proofs.Common.{◌≡◌}
use Rattle.mal_job.proofs.tree.give_up.Given as goal

abbrev pub invariant-loop-index : goal.invariant-loop-index
invariant-loop-index l = l.places.items ≡ l.fn.places.items
