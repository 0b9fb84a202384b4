use Rattle.std.proofs.Common.{◌≡◌, map, take}
use Rattle.mal_base.specs.Literals.{dimacs_of}
use Rattle.mal_c.specs.Numbers.{laid}
use Rattle.mal_c.proofs.lines.write_lits.Given as goal

abbrev pub invariant-loop-index : goal.invariant-loop-index
invariant-loop-index l = l.out ≡ laid l.at (map dimacs_of (take l.index l.lits)) l.initial.out
