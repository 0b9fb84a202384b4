use Rattle.std.proofs.Common.{◌≡◌, ◌+◌, ◌≤◌, length, take, drop}
use Rattle.mal_cdcl.specs.ImportSizes.{lits_in}
use Rattle.mal_cdcl.proofs.copies.engine_of.Given as goal

abbrev pub invariant-loop-held : goal.invariant-loop-held
invariant-loop-held g l =
    record {
      clauses_are : g.E.ClauseView.clauses l.engine ≡ take l.held-index l.clauses;
      fits : g.E.Engine.fits l.engine l.trail.entries l.trail.processed;
      for_variables : l.variables ≤ (g.E.Engine.room l.engine).variables;
      for_clauses : length l.clauses ≤ (g.E.Engine.room l.engine).clauses + l.held-index;
      for_literals : lits_in (drop l.held-index l.clauses) ≤ (g.E.Engine.room l.engine).literals;
    }
