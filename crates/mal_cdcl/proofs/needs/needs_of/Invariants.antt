use Rattle.std.proofs.Common.{◌≡◌, ◌+◌, ◌≤◌, drop}
use Rattle.mal_base.specs.Limits.{limits}
use Rattle.mal_cdcl.specs.Ready.{posted, greatest, clauses_in, literals_in, most_assumptions}
use Rattle.mal_cdcl.proofs.needs.needs_of.Given as goal

abbrev pub invariant-loop-load : goal.invariant-loop-load
invariant-loop-load l =
    record {
      variables : greatest (posted (drop l.load-index l.loads)) l.needs.variables ≡ greatest (posted l.loads) l.fn.variables;
      least : l.fn.variables ≤ l.needs.variables;
      bound : l.needs.variables ≤ limits.variables;
      clauses : l.needs.clauses + clauses_in (posted (drop l.load-index l.loads)) ≡ clauses_in (posted l.loads);
      literals : l.needs.literals + literals_in (posted (drop l.load-index l.loads)) ≡ literals_in (posted l.loads);
      assumptions : most_assumptions (posted (drop l.load-index l.loads)) l.needs.assumptions ≡ most_assumptions (posted l.loads) 0;
    }
