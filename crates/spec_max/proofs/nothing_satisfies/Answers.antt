use Rattle.spec_max.proofs.Refuting.{nothing_satisfies}
use Rattle.spec_max.proofs.nothing_satisfies.Goals as goal

pub returns : goal.returns
returns c = nothing_satisfies
