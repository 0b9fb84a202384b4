use Rattle.std.proofs.Common.{◌≡◌, drop}
use Rattle.mal_base.specs.Formulas.{is_within}
use Rattle.mal_freeze.proofs.scan.is_within.Given as goal

abbrev pub invariant-loop-lit : goal.invariant-loop-lit
invariant-loop-lit l = is_within l.greatest (drop l.lit-index l.lits) ≡ is_within l.greatest l.lits
