use Rattle.std.proofs.Common.{◌≡◌, drop}
use Rattle.mal_base.specs.Clauses.{clash, clash_after}
use Rattle.mal_revision.proofs.scan.opposite.Given as goal

abbrev pub invariant-loop-lit : goal.invariant-loop-lit
invariant-loop-lit l = clash_after l.last (drop l.lit-index l.rest) ≡ clash l.lits
