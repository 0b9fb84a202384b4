use Rattle.spec_run.proofs.Evidence.{evident_by_law}
use Rattle.spec_live.proofs.legal_is_evident.Goals as goal

pub returns : goal.returns
returns c = evident_by_law
