use Rattle.std.proofs.Common.{◌≡◌, ◌++◌, cond, drop}
use Rattle.std.specs.List.{list_any}
use Rattle.spec_logic.specs.Derivation.{is_true, left_of, effect_of_lits, effect_of_left}
use Rattle.spec_logic.specs.Derivation.Effect.{Passes}
use Rattle.mal_check.proofs.Lefts.{listed}
use Rattle.mal_check.proofs.effect.effect_of_lits.Given as goal

abbrev pub invariant-loop-index : goal.invariant-loop-index
invariant-loop-index l =
    effect_of_lits l.trues l.lits
    ≡ cond (list_any (is_true l.trues) (drop l.index l.lits)) Passes (effect_of_left (listed l.left ++ left_of l.trues (drop l.index l.lits)))
