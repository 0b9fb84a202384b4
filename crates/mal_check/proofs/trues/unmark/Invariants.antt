use Rattle.std.proofs.Common.{◌≡◌, ℕ, true, false, get_or, drop}
use Rattle.spec_logic.specs.Derivation.{is_true}
use Rattle.mal_check.proofs.trues.unmark.Given as goal

abbrev pub invariant-loop-lit : goal.invariant-loop-lit
invariant-loop-lit l = (code : ℕ) → get_or l.marks code false ≡ true → is_true (drop l.lit-index l.lits) code ≡ true
