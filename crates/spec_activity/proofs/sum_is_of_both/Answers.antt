use Rattle.spec_activity.proofs.Far.{far}
use Rattle.spec_activity.proofs.sum_is_of_both.Goals as goal

pub returns-clause-lost : goal.returns-clause-lost
returns-clause-lost c = far
