use Rattle.std.proofs.Common.{◌≡◌, ◌≤◌, length}
use Rattle.spec_exchange.specs.Exchange.{broadcast, entries_of}
use Rattle.mal_exchange.proofs.climbing.up.Given as goal

abbrev pub invariant-loop-tops : goal.invariant-loop-tops
invariant-loop-tops l = record { bound : length l.tops.items ≤ 64; same : broadcast (entries_of l.tops.items) ≡ broadcast (entries_of l.buffers) }

abbrev pub decreases-loop-tops : goal.decreases-loop-tops
decreases-loop-tops l = length l.tops.items
