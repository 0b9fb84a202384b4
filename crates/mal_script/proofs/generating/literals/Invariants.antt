use Rattle.std.proofs.Common.{◌≡◌, ◌+◌, ◌-◌, ◌++◌, length}
use Rattle.spec_script.specs.Generated.{variables, literals_from, after_literals}
use Rattle.mal_script.proofs.generating.literals.Given as goal

abbrev pub invariant-loop-made : goal.invariant-loop-made
invariant-loop-made l = record {
  made : l.lits.items ++ literals_from (l.count - l.made) l.left.items l.draws ≡ literals_from l.count variables l.fn.draws;
  state : after_literals (l.count - l.made) l.draws ≡ after_literals l.count l.fn.draws;
  left : length l.left.items + l.made ≡ 50;
}
