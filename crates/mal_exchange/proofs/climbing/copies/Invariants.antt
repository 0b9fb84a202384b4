use Rattle.std.proofs.Common.{◌≡◌, take}
use Rattle.mal_exchange.proofs.climbing.copies.Given as goal

abbrev pub invariant-loop-buffer : goal.invariant-loop-buffer
invariant-loop-buffer l = l.all.items ≡ take l.buffer-index l.buffers
