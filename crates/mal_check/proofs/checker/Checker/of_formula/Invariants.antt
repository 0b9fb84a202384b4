use Rattle.std.proofs.Common.{◌≡◌, [], take}
use Rattle.spec_logic.specs.Refutation.{numbered}
use Rattle.mal_check.specs.Checked.{held}
use Rattle.mal_check.specs.Places.{IsShort}
use Rattle.mal_check.proofs.checker.Checker.of_formula.Given as goal

abbrev pub invariant-loop-index : goal.invariant-loop-index
invariant-loop-index l = (l.checker.originals ≡ take l.index l.clauses) × (l.checker.added ≡ []) × (held l.checker ≡ numbered (take l.index l.clauses)) × IsShort l.checker.originals l.checker.added l.checker.ids
