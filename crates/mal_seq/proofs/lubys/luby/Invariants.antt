use Rattle.std.proofs.Common.{◌-◌}
use Rattle.mal_seq.proofs.RoundLemmas.{IsLeft}
use Rattle.mal_seq.proofs.lubys.luby.Given as goal

abbrev pub invariant-loop-made : goal.invariant-loop-made
invariant-loop-made l = IsLeft (64 - l._made) l.rest l.size l.i
