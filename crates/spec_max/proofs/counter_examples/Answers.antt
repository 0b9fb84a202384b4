use Rattle.spec_max.proofs.ExampleLemmas.{counters, costs, refutation}
use Rattle.spec_max.proofs.counter_examples.Goals as goal

pub returns-clause-counters : goal.returns-clause-counters
returns-clause-counters c = counters

pub returns-clause-costs : goal.returns-clause-costs
returns-clause-costs c = costs

pub returns-clause-refutation : goal.returns-clause-refutation
returns-clause-refutation c = refutation
