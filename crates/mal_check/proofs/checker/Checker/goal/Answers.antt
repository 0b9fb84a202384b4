use Rattle.std.proofs.Common.{sym, ap, ◌∙◌}
use Rattle.std.specs.List.{list_any}
use Rattle.spec_logic.specs.Refutation.{contradicts}
use Rattle.spec_logic.proofs.RefutationLemmas.{goal-unsatisfiable}
use Rattle.mal_check.proofs.checker.Checker.goal.Goals as goal

pub returns-clause-refuted : goal.returns-clause-refuted
returns-clause-refuted c = rw (← c.self.view_is) (λ t a s. goal-unsatisfiable c.self.inside.clauses.originals c.args.assumptions.now c.self.inside.clauses.added c.self.invariant.0 (ap (list_any (contradicts c.args.assumptions.now)) (sym c.added.ensures) ∙ (sym c.has_contradiction.ensures ∙ t)) a s)
