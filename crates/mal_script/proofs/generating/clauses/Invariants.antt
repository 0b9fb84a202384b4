use Rattle.std.proofs.Common.{◌≡◌, ◌-◌, ◌++◌}
use Rattle.spec_script.specs.Generated.{clauses_from, after_clauses}
use Rattle.mal_script.proofs.generating.clauses.Given as goal

abbrev pub invariant-loop-made : goal.invariant-loop-made
invariant-loop-made l = record {
  made : l.clauses ++ clauses_from (l.count - l.made) l.draws ≡ clauses_from l.count l.fn.draws;
  state : after_clauses (l.count - l.made) l.draws ≡ after_clauses l.count l.fn.draws;
}
