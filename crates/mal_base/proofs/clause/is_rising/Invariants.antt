use Rattle.std.proofs.Common.{◌≡◌, ◌∷◌, drop}
use Rattle.mal_base.specs.Clauses.{rises}
use Rattle.mal_base.proofs.clause.is_rising.Given as goal

abbrev pub invariant-loop-lit : goal.invariant-loop-lit
invariant-loop-lit l = rises (l.last ∷ drop l.lit-index l.rest) ≡ rises l.lits
