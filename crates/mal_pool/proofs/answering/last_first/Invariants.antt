use Rattle.std.proofs.Common.{◌≡◌, flat_map}
use Rattle.mal_pool.proofs.answering.last_first.Given as goal

abbrev pub invariant-loop-part : goal.invariant-loop-part
invariant-loop-part l = l.all.items ≡ flat_map (λ p. p.items) l.yielded
