use Rattle.spec_max.proofs.Refuting.{nothing_is_cheaper}
use Rattle.spec_max.proofs.nothing_is_cheaper.Goals as goal

pub returns : goal.returns
returns c = nothing_is_cheaper
