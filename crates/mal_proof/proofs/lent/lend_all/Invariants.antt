use Rattle.std.proofs.Common.{◌≡◌, ◌++◌, take}
use Rattle.mal_proof.proofs.lent.lend_all.Given as goal

abbrev pub invariant-loop-n : goal.invariant-loop-n
invariant-loop-n l = l.all.items ≡ l.fn.all.items ++ take l.n l.lines.lines
