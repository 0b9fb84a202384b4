use Rattle.std.proofs.Common.{◌≡◌, ◌++◌, take}
use Rattle.mal_proof.specs.Goals.{up_to}
use Rattle.mal_proof.proofs.lent.lend_up_to.Given as goal

abbrev pub invariant-loop-n : goal.invariant-loop-n
invariant-loop-n l = l.all.items ≡ l.fn.all.items ++ up_to l.fn.most (take l.n l.lines.lines)
