use Rattle.spec_max.proofs.Counting.{cost_is_counted, cost_is_below}
use Rattle.spec_max.proofs.cost_is_counted.Goals as goal

pub returns-clause-counted : goal.returns-clause-counted
returns-clause-counted c = cost_is_counted

pub returns-clause-below : goal.returns-clause-below
returns-clause-below c = cost_is_below
