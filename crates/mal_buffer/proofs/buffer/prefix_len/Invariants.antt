use Rattle.std.proofs.Common.{◌≡◌, ◌++◌, take, drop}
use Rattle.spec_exchange.specs.Exchange.{prefix}
use Rattle.mal_buffer.proofs.buffer.prefix_len.Given as goal

abbrev pub invariant-loop-place : goal.invariant-loop-place
invariant-loop-place l = prefix l.literals l.entries ≡ take l.place l.entries ++ prefix l.room (drop l.place l.entries)
