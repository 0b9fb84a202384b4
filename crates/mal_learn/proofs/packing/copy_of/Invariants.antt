use Rattle.mal_learn.proofs.PackLemmas.{IsCopying}
use Rattle.mal_learn.proofs.packing.copy_of.Given as goal

abbrev pub invariant-loop-n : goal.invariant-loop-n
invariant-loop-n l = IsCopying l.lines.lines l.n l.copy
