use Rattle.std.proofs.Common.{◌≡◌, drop}
use Rattle.spec_logic.specs.Derivation.{propagation}
use Rattle.mal_check.specs.Checked.{held}
use Rattle.mal_check.proofs.checker.propagate.Given as goal

abbrev pub invariant-loop-id : goal.invariant-loop-id
invariant-loop-id l = propagation (held l.clauses) l.trues (drop l.id-index l.hints) ≡ propagation (held l.clauses) l.fn.trues l.hints
