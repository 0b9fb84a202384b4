use Rattle.std.proofs.Common.{◌≡◌, ◌+◌, ◌≤◌, drop}
use Rattle.mal_base.specs.Limits.{limits}
use Rattle.mal_cdcl.specs.Ready.{posted, greatest, clauses_in, literals_in, most_assumptions}
use Rattle.mal_cdcl.specs.ImportSizes.{import_clauses, import_literals}
use Rattle.mal_cdcl.proofs.needs.needs_in_all.Given as goal

abbrev pub invariant-loop-pick : goal.invariant-loop-pick
invariant-loop-pick l =
    record {
      variables : l.needs.variables ≡ greatest (posted l.loads) l.variables;
      least : l.variables ≤ l.needs.variables;
      bound : l.needs.variables ≤ limits.variables;
      clauses : l.needs.clauses + import_clauses (drop l.pick-index l.picks) ≡ clauses_in (posted l.loads) + import_clauses l.picks;
      literals : l.needs.literals + import_literals (drop l.pick-index l.picks) ≡ literals_in (posted l.loads) + import_literals l.picks;
      assumptions : l.needs.assumptions ≡ most_assumptions (posted l.loads) 0;
    }
