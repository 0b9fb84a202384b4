use Rattle.std.proofs.Common.{◌≡◌, true, take, drop}
use Rattle.mal_base.specs.Formulas.{is_within}
use Rattle.mal_revision.specs.Refused.{above}
use Rattle.mal_revision.proofs.scan.above.Given as goal

abbrev pub invariant-loop-lit : goal.invariant-loop-lit
invariant-loop-lit l = record { rest : above l.variables (drop l.lit-index l.lits) ≡ above l.variables l.lits; passed : is_within l.variables (take l.lit-index l.lits) ≡ true }
