use Rattle.mal_cdcl.proofs.OriginalLemmas.{IsAdding}
use Rattle.mal_cdcl.proofs.node_load.add_clauses.Given as goal

abbrev pub invariant-loop-place : goal.invariant-loop-place
invariant-loop-place g l =
    record {
      adding : IsAdding l.first l.place l.clauses (g.E.ClauseView.clauses l.fn.engine) (g.E.ClauseView.clauses l.engine) (g.E.Engine.room l.fn.engine) (g.E.Engine.room l.engine);
      fits : g.E.Engine.fits l.engine l.trail.entries l.trail.processed;
    }
