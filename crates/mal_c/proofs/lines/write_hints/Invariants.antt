use Rattle.std.proofs.Common.{◌≡◌, map, take}
use Rattle.mal_c.specs.Numbers.{number_of_clause, laid}
use Rattle.mal_c.proofs.lines.write_hints.Given as goal

abbrev pub invariant-loop-index : goal.invariant-loop-index
invariant-loop-index l = l.out ≡ laid l.at (map number_of_clause (take l.index l.hints)) l.initial.out
