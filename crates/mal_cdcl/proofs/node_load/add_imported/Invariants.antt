use Rattle.std.proofs.Common.{drop}
use Rattle.mal_cdcl.proofs.TellingLemmas.{IsTelling}
use Rattle.mal_cdcl.proofs.node_load.add_imported.Given as goal

abbrev pub invariant-loop-entry : goal.invariant-loop-entry
invariant-loop-entry g l =
    record {
      telling : IsTelling (drop l.entry-index l.exported) l.exported (g.E.ClauseView.clauses l.fn.engine) (g.E.ClauseView.clauses l.engine) (g.E.Engine.room l.fn.engine) (g.E.Engine.room l.engine);
      fits : g.E.Engine.fits l.engine l.trail.entries l.trail.processed;
    }
