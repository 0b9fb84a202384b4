use Rattle.spec_logic.proofs.ExampleLemmas.{derivations, refusals, goals, refutations}
use Rattle.spec_logic.proofs.refutation_examples.Goals as goal

pub returns-clause-derivations : goal.returns-clause-derivations
returns-clause-derivations c = derivations

pub returns-clause-refusals : goal.returns-clause-refusals
returns-clause-refusals c = refusals

pub returns-clause-goals : goal.returns-clause-goals
returns-clause-goals c = goals

pub returns-clause-refutations : goal.returns-clause-refutations
returns-clause-refutations c = refutations
