use Rattle.spec_balance.proofs.Unique.{unique}
use Rattle.spec_balance.proofs.fair_volumes_are_unique.Goals as goal

pub returns : goal.returns
returns c = unique
