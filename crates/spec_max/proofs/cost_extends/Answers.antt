use Rattle.spec_max.proofs.Extending.{cost_extends}
use Rattle.spec_max.proofs.cost_extends.Goals as goal

pub returns : goal.returns
returns c = cost_extends
