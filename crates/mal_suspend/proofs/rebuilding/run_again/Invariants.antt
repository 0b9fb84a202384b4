use Rattle.std.proofs.Common.{◌≡◌}
use Rattle.mal_suspend.specs.Entries.{slices_of}
use Rattle.mal_suspend.specs.Replaying.{after_entries}
use Rattle.mal_suspend.proofs.rebuilding.run_again.Given as goal

abbrev pub invariant-loop : goal.invariant-loop
invariant-loop l = l.node.state ≡ (after_entries l.fn.node.state (slices_of l.counter)).node
