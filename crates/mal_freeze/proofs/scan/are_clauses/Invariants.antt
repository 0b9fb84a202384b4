use Rattle.std.proofs.Common.{◌≡◌, drop}
use Rattle.mal_freeze.specs.Imaged.{are_clauses}
use Rattle.mal_freeze.proofs.scan.are_clauses.Given as goal

abbrev pub invariant-loop-held : goal.invariant-loop-held
invariant-loop-held l = are_clauses l.greatest (drop l.held-index l.clauses) ≡ are_clauses l.greatest l.clauses
