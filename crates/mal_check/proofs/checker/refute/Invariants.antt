use Rattle.std.proofs.Common.{◌≡◌, map, take}
use Rattle.mal_base.specs.Literals.{negated}
use Rattle.mal_check.proofs.checker.refute.Given as goal

abbrev pub invariant-loop-lit : goal.invariant-loop-lit
invariant-loop-lit l = l.trues ≡ map negated (take l.lit-index l.lits)
