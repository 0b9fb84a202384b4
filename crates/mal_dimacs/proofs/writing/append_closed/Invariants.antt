use Rattle.std.proofs.Common.{◌≡◌, ◌++◌, flat_map, take}
use Rattle.mal_dimacs.specs.Spaced.{spaced}
use Rattle.mal_dimacs.proofs.writing.append_closed.Given as goal

abbrev pub invariant-loop-lit : goal.invariant-loop-lit
invariant-loop-lit l = l.out.items ≡ l.fn.out.items ++ flat_map spaced (take l.lit-index l.lits)
