use Rattle.std.proofs.Common.{List, drop}
use Rattle.mal_base.specs.NumberedClause.{NumberedClause}
use Rattle.mal_cdcl.specs.Importing.{Sees, lent}
use Rattle.mal_cdcl.proofs.PickLemmas.{IsPicking}
use Rattle.mal_cdcl.proofs.import_filter.pick_past.Given as goal

abbrev pub invariant-loop-exported : goal.invariant-loop-exported
invariant-loop-exported l = (clauses : List NumberedClause) → Sees l.fn.seen clauses → IsPicking (lent (drop l.exported-index l.imports)) (lent l.imports) clauses l.picks.items l.seen
