use Rattle.std.proofs.Common.{◌≡◌, ◌+◌, ◌-◌, ◌≤◌, ◌++◌, drop, length}
use Rattle.spec_exchange.specs.Exchange.{merged}
use Rattle.mal_buffer.proofs.buffer.merged.Given as goal

abbrev pub invariant-loop-i : goal.invariant-loop-i
invariant-loop-i l = record { first : l.i ≤ length l.xs; second : l.j ≤ length l.ys; rest : merged l.xs l.ys ≡ l.all.items ++ merged (drop l.i l.xs) (drop l.j l.ys) }

abbrev pub decreases-loop-i : goal.decreases-loop-i
decreases-loop-i l = (length l.xs - l.i) + (length l.ys - l.j)
