use Rattle.std.proofs.Common.{◌≡◌, take}
use Rattle.mal_cdcl.proofs.copies.clauses_of.Given as goal

abbrev pub invariant-loop-place : goal.invariant-loop-place
invariant-loop-place g l = l.clauses.items ≡ take l.place (g.E.ClauseView.clauses l.engine)
